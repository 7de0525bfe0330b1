-- Going through views of two tables is asking at the two pointers.
use Rattle.std.specs.Prelude.{Result, Ok, Err}
use Rattle.layout.specs.declared.table.Table.{Table}
use Rattle.layout.specs.declared.refusal.Refusal.{Refusal}
use Rattle.layout.specs.declared.pointer.Pointer.{Pointer}
use Prim.Native.Nat.{ℕ}
use mathlib.Core.Path.{◌≡◌, refl, sym, ap, subst, ◌∙◌}
use mathlib.Core.Bool.{Bool, true, false}
use mathlib.Core.List.{List}
use native.Mathlib.Omega.{arith}
use lib.Dec.{eqb}
use borrow.Author.Tests.{eqb-true, eqb-false}
use denote.Ref.{Bor}
use Rattle.layout.proofs.AnswerLaws.{opened_low}
use Rattle.read_find.specs.declared.manner.Manner as code
use Rattle.read.specs.declared.layered.Layered.{Layered}
use Rattle.read_find.specs.Find.{manner_of}
use Rattle.read.specs.Lookup.{lookup_value}
use Rattle.read.specs.Answer.{looked_number}
use Rattle.read.specs.Layered.{layered_of, layered_value}
use Rattle.read.proofs.LayeredLaws.{own_answers, own_misses}
use Rattle.view.specs.declared.table.OpenedView.{OpenedView}
use Rattle.view.specs.declared.table.LayeredView.{LayeredView}
use Rattle.view_part.specs.Part.{LayeredIn}
use Rattle.view.specs.Views.{OpenedOf, LayeredOf}
use Rattle.view.proofs.Plain.{empty_refused, opened_whole, opened_empty}
use Rattle.view.proofs.LayeredLaws.{alone, value_view, of_owner, of_district}
use Rattle.view.proofs.ThroughLaws.{value_unopened, value_through}

-- a view that was opened answers 12 exactly where the table at the pointer does
module _ (file : Bor (List ℕ)) (start end : ℕ) (manner : code.Manner) (key : List ℕ) (o : OpenedView) (opened : OpenedOf file start end manner o) where
  abbrev there : Result Pointer Refusal
  there = lookup_value (manner_of manner) file.now start end key

  same_twelve : ((looked_number (alone o.table key) ≡ 12) → looked_number there ≡ 12) × (looked_number there ≡ 12 → looked_number (alone o.table key) ≡ 12)
  unfolding looked_number
  same_twelve = by_answer o.answer refl
    where
      by_answer : (answer : Result Table Refusal) → o.answer ≡ answer → ((looked_number (alone o.table key) ≡ 12) → looked_number there ≡ 12) × (looked_number there ≡ 12 → looked_number (alone o.table key) ≡ 12)
      by_answer (Ok table) e =
          let whole = opened_whole file start end manner o opened e in
          let same : alone o.table key ≡ there = rw (whole.seen.holds, whole.starts, whole.ends, whole.manners) refl in
          (λ f. sym (ap looked_number same) ∙ f, λ f. ap looked_number same ∙ f)
      by_answer (Err why) e =
          let seen = ap looked_number (value_unopened (manner_of o.table.manner) _ _ _ key (empty_refused file o.table (opened_empty file start end manner o opened e))) in
          let not = ap looked_number (value_unopened (manner_of manner) file.now start end key (sym opened.answered ∙ e)) in
          (λ f. absurd (omega (arith, seen, f)), λ f. absurd (omega (arith, not, f, opened_low file.now start end (sym opened.answered ∙ e))))

-- two views that were opened, by what the owner's answers
pub layered_through : (owner : Bor (List ℕ)) (ostart oend : ℕ) (omanner : code.Manner) (district : Bor (List ℕ)) (dstart dend : ℕ) (dmanner : code.Manner) (key : List ℕ)
    (own under : OpenedView) (r : LayeredView) → OpenedOf owner ostart oend omanner own → OpenedOf district dstart dend dmanner under → LayeredOf own.table under.table key r
    → LayeredIn owner district (layered_value (manner_of omanner) (manner_of dmanner) owner.now ostart oend district.now dstart dend key) r.bytes
unfolding layered_value
layered_through owner ostart oend omanner district dstart dend dmanner key own under r first second said = by_test (eqb (looked_number (alone own.table key)) 12) refl
  where
    by_test : (q : Bool) → eqb (looked_number (alone own.table key)) 12 ≡ q
        → LayeredIn owner district (layered_of (lookup_value (manner_of omanner) owner.now ostart oend key) (lookup_value (manner_of dmanner) district.now dstart dend key)) r.bytes
    by_test true e =
        let misses = eqb-true _ _ e in
        subst (λ (l : Layered). LayeredIn owner district l r.bytes) (sym (own_misses _ _ ((same_twelve owner ostart oend omanner key own first).0 misses)))
        (value_through district dstart dend dmanner key under (value_view r) second (of_district own.table under.table key r said misses).1)
    by_test false e =
        let answers = eqb-false _ _ e in
        subst (λ (l : Layered). LayeredIn owner district l r.bytes) (sym (own_answers _ _ (λ f. answers ((same_twelve owner ostart oend omanner key own first).1 f))))
        (value_through owner ostart oend omanner key own (value_view r) first (of_owner own.table under.table key r said answers).1)
