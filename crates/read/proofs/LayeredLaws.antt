-- A lookup over two tables, case by case, and in the request's words.
use Rattle.std.specs.Prelude.{Result, Ok, Err}
use Rattle.layout.specs.declared.pointer.Pointer.{Pointer}
use Prim.Native.Nat.{ℕ, ◌<◌}
use mathlib.Core.Path.{◌≡◌, refl, sym, ap, ◌∙◌}
use mathlib.Core.List.{List}
use mathlib.Core.Bool.{false}
use lib.ListN.{length}
use lib.Dec.{eqb}
use native.Mathlib.Omega.{arith}
use borrow.Author.Tests.{eqb-true, eq-eqb, ne_eqb}
use Rattle.words.specs.Choice.{pick}
use Rattle.words.proofs.ChoiceLaws.{pick_with}
use Rattle.layout.specs.declared.refusal.Refusal.{Refusal}
use Rattle.layout.specs.Refusal.{number}
use Rattle.layout.specs.Table.{open_table}
use Rattle.layout.specs.Answer.{pointed_number}
use Rattle.layout.specs.Pointer.{open_pointer}
use Rattle.layout.specs.declared.item.Item.{Item}
use Rattle.layout.proofs.AnswerLaws.{pointed_below, opened_low}
use Rattle.read_find.specs.Find.{Manner}
use Rattle.read.specs.declared.layered.Source.{Source}
use Rattle.read.specs.declared.layered.Layered.{Layered}
use Rattle.read.specs.Lookup.{value_of, at_pointer, at_opened, at_item, lookup_item, lookup_value}
use Rattle.read.specs.Answer.{looked_number}
use Rattle.read.specs.Layered.{marked, layered_of, layered_value, LayeredAlone, LayeredUnder, LayeredMark}

pub own_answers : (own under : Result Pointer Refusal) → (looked_number own ≡ 12 → ⊥) → layered_of own under ≡ marked own Source.Owner
unfolding layered_of pick
own_answers own under n = rw (ne_eqb (looked_number own) 12 n) refl

pub own_misses : (own under : Result Pointer Refusal) → looked_number own ≡ 12 → layered_of own under ≡ marked under Source.District
unfolding layered_of pick
own_misses own under e = rw (eq-eqb (looked_number own) 12 e) refl

-- ---- what the code answers, once it knows the owner's answer

module _ (under : Result Pointer Refusal) {own here : Result Pointer Refusal} (same : own ≡ here) where
  pub points : {pointer : Pointer} → own ≡ Ok pointer → marked (Ok pointer) Source.Owner ≡ layered_of here under
  unfolding layered_of looked_number pick
  points is = rw (← same, is)

  module _ {why : Refusal} (is : own ≡ Err why) {n : ℕ} (told : n ≡ number why) where
    pub refuses : (n ≡ 12 → ⊥) → marked (Err why) Source.Owner ≡ layered_of here under
    unfolding looked_number
    refuses other = ap (λ (l : Result Pointer Refusal). marked l Source.Owner) (sym is ∙ same) ∙ sym (own_answers here under (rw (← same, is, ← told) other))

    pub misses : {below : Result Pointer Refusal} → n ≡ 12 → below ≡ under → marked below Source.District ≡ layered_of here under
    unfolding looked_number
    misses twelve is-under = rw is-under (sym (own_misses here under (rw (← same, is, ← told) twelve)))

-- an item that is found answers no 12
pub value_told : (file : List ℕ) (item : Item) → eqb (looked_number (value_of file item)) 12 ≡ false
unfolding value_of looked_number at_pointer pointed_number
value_told file item =
    pick_with (λ (l : Result Pointer Refusal). eqb (looked_number l) 12 ≡ false) _ _ _
    (λ _. by_pointer (open_pointer (length file) item.from item.to 8) (pointed_below (length file) item.from item.to 8)) (λ _. refl)
  where
    by_pointer : (p : Result (Unit {0}) Refusal) → pointed_number p < 4 → eqb (looked_number (at_pointer p item)) 12 ≡ false
    by_pointer (Ok _) low = refl
    by_pointer (Err why) low = ne_eqb (number why) 12 (λ e. omega (arith, e))

-- what opening the owner's table refuses is below 8, so it is no 12
pub own_shut : (manner : Manner) (file : List ℕ) (start end : ℕ) (key : List ℕ) (under : Result Pointer Refusal) {why : Refusal} → open_table file start end ≡ Err why
    → marked (Err why) Source.Owner ≡ layered_of (lookup_value manner file start end key) under
unfolding lookup_value lookup_item at_opened at_item looked_number
own_shut manner file start end key under {why} shut =
    let low : number why < 8 = opened_low file start end shut in
    rw shut (sym (own_answers (Err why) under (λ e. omega (arith, e))))

pub layered_alone : LayeredAlone
unfolding layered_value
layered_alone omanner dmanner other owner ostart oend district dstart dend file start end key answers = own_answers _ _ answers ∙ sym (own_answers _ _ answers)

pub layered_under : LayeredUnder
unfolding layered_value
layered_under omanner dmanner owner ostart oend district dstart dend key misses = own_misses _ _ misses

-- the mark is the owner's unless the test for 12 holds
mark_tells : (own under : Result Pointer Refusal) → (layered_of own under).from ≡ Source.District → looked_number own ≡ 12
unfolding layered_of
mark_tells own under =
    let P : Layered → Type 0 = λ l. l.from ≡ Source.District → looked_number own ≡ 12 in
    pick_with P _ _ _ (λ twelve _. eqb-true _ _ twelve) (λ _ e. let z : ◌≡◌ {A = ℕ} 0 1 = cc in absurd (omega arith))

pub layered_mark : LayeredMark
unfolding layered_value
layered_mark omanner dmanner owner ostart oend district dstart dend key = (
  λ e. mark_tells _ _ e,
  λ e. ap (λ l. l.from) (layered_under omanner dmanner owner ostart oend district dstart dend key e),
)
