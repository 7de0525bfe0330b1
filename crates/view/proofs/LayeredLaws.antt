-- A view of two tables is the value's view of the one that its mark names.
use Rattle.std.specs.Prelude.{Result, Ok, Err}
use Rattle.layout.specs.declared.pointer.Pointer.{Pointer}
use Prim.Native.Nat.{ℕ, ◌-◌}
use mathlib.Core.Path.{◌≡◌, refl, sym, ap, subst, ◌∙◌}
use mathlib.Core.Bool.{Bool, true, false}
use mathlib.Core.List.{List, []}
use lib.Dec.{eqb}
use lib.ListN.{take, drop}
use borrow.Author.Tests.{eqb-true, eqb-false}
use denote.Ref.{Bor}
use Rattle.layout.specs.declared.refusal.Refusal.{Refusal}
use Rattle.read.specs.declared.layered.Source.{Source}
use Rattle.read.specs.declared.layered.Layered.{Layered}
use Rattle.read_find.specs.Find.{manner_of}
use Rattle.read.specs.Lookup.{lookup_value}
use Rattle.read.specs.Answer.{looked_number}
use Rattle.read.specs.Layered.{marked, layered_value}
use Rattle.read.proofs.LayeredLaws.{own_answers, own_misses}
use Rattle.view.specs.declared.table.TableView.{TableView}
use Rattle.view.specs.declared.table.ValueView.{ValueView}
use Rattle.view.specs.declared.table.LayeredView.{LayeredView}
use Rattle.view_part.specs.Part.{Viewed, ValueIn, of_source, LayeredIn}
use Rattle.view.specs.Views.{ValueOf, LayeredOf}
use Rattle.view.proofs.Plain.{value_seen, value-refused}

-- the walk's facts, put together
pub layered_of_lem : (owner district : TableView) (key : List ℕ) (layered : Layered) (answer : Result Pointer Refusal) (from : Source) (bytes : Bor (List ℕ))
    → layered ≡ layered_value (manner_of owner.manner) (manner_of district.manner) owner.file.now owner.start owner.end district.file.now district.start district.end key
    → answer ≡ layered.looked → from ≡ layered.from → LayeredIn owner.file district.file layered bytes
    → LayeredOf owner district key (record { answer = answer; from = from; bytes = bytes })
layered_of_lem owner district key layered answer from bytes said is mark seen = record {
  answered = ap (λ (a : Result Pointer Refusal). marked a from) is ∙ ap (marked layered.looked) mark ∙ said;
  viewed = subst (λ (a : Result Pointer Refusal). ValueIn (of_source from owner.file district.file) a bytes) (sym is) (subst (λ (s : Source). ValueIn (of_source s owner.file district.file) layered.looked bytes) (sym mark) seen);
}

-- what a table answers alone
abbrev pub alone : TableView → List ℕ → Result Pointer Refusal
alone t key = lookup_value (manner_of t.manner) t.file.now t.start t.end key

-- the value's view in the table that the mark names
abbrev pub value_view : LayeredView → ValueView
value_view r = record { answer = r.answer; bytes = r.bytes }

module _ (owner district : TableView) (key : List ℕ) (r : LayeredView) (said : LayeredOf owner district key r) where
  pub of_owner : (looked_number (alone owner key) ≡ 12 → ⊥) → (r.from ≡ Source.Owner) × ValueOf owner key (value_view r)
  unfolding layered_value
  of_owner answers =
      let is : marked r.answer r.from ≡ marked (alone owner key) Source.Owner = said.answered ∙ own_answers _ _ answers in
      let mark : r.from ≡ Source.Owner = ap (λ (l : Layered). l.from) is in
      (mark, record { answered = ap (λ (l : Layered). l.looked) is; viewed = subst (λ (s : Source). ValueIn (of_source s owner.file district.file) r.answer r.bytes) mark said.viewed })

  pub of_district : looked_number (alone owner key) ≡ 12 → (r.from ≡ Source.District) × ValueOf district key (value_view r)
  unfolding layered_value
  of_district misses =
      let is : marked r.answer r.from ≡ marked (alone district key) Source.District = said.answered ∙ own_misses _ _ misses in
      let mark : r.from ≡ Source.District = ap (λ (l : Layered). l.from) is in
      (mark, record { answered = ap (λ (l : Layered). l.looked) is; viewed = subst (λ (s : Source). ValueIn (of_source s owner.file district.file) r.answer r.bytes) mark said.viewed })

  -- the view of two tables is the value's view of the table that the mark names
  pub layered_one : ValueOf (of_source r.from owner district) key (value_view r)
  layered_one = by_test (eqb (looked_number (alone owner key)) 12) refl
    where
      by_test : (q : Bool) → eqb (looked_number (alone owner key)) 12 ≡ q → ValueOf (of_source r.from owner district) key (value_view r)
      by_test true e = let one = of_district (eqb-true _ _ e) in subst (λ (s : Source). ValueOf (of_source s owner district) key (value_view r)) (sym one.0) one.1
      by_test false e = let one = of_owner (eqb-false _ _ e) in subst (λ (s : Source). ValueOf (of_source s owner district) key (value_view r)) (sym one.0) one.1

  -- the value's bytes, of the file that the mark names; none on a refusal
  pub layered_seen : {from to : ℕ} → r.answer ≡ Ok (record { start = from; end = to })
      → Viewed (of_source r.from owner district).file r.bytes from (take (to - from) (drop from (of_source r.from owner district).file.now))
  layered_seen e = value_seen (of_source r.from owner district) key (value_view r) layered_one e

  pub layered_refused : {why : Refusal} → r.answer ≡ Err why → Viewed (of_source r.from owner district).file r.bytes 0 []
  layered_refused e = value-refused (of_source r.from owner district) key (value_view r) layered_one e
