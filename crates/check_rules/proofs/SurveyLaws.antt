-- The walk over all containers, and what its bits tell of rules 5 and 6.
use Rattle.std.specs.Prelude.{Result, Ok, Err, Option, Some, None}
use Rattle.layout.specs.declared.refusal.Refusal.{Refusal}
use Prim.Native.Nat.{ℕ, ◌+◌, ◌*◌, ◌≤◌, ◌<◌}
use mathlib.Core.Path.{◌≡◌, refl, sym, ap, ◌∙◌, subst}
use mathlib.Core.List.{List}
use mathlib.Core.Bool.{Bool, true, false}
use native.Mathlib.Omega.{arith}
use lib.ListN.{length, replicate, length-replicate}
use lib.Dec.{eqb}
use borrow.Author.Count.{below_more}
use borrow.Author.Tests.{eqb-true, eqb-false}
use Rattle.words.proofs.ChoiceLaws.{pick_with}
use Rattle.layout.specs.declared.table.Table.{Table}
use Rattle.layout.specs.declared.item.Item.{Item}
use Rattle.layout.specs.Table.{InFile}
use Rattle.layout.specs.Item.{item_at}
use Rattle.read_chain.specs.Chain.{parent_of}
use Rattle.check_rules.specs.Bits.{has_bit}
use Rattle.check_rules.specs.Rules.{value_opens, children_good, lists_it, parent_keeps, parent_good, broken_rule}
use Rattle.check_rules.specs.Survey.{five_or_shut, Fresh, Surveying, Survey, Blank}
use Rattle.check_rules.proofs.BitsLaws.{none_bit_set}
use Rattle.check_rules.proofs.ChildLaws.{five_open}
use Rattle.read_find.specs.Find.{Manner}
use Rattle.check_rules.proofs.KeepLaws.{breaks_none_keeps}

-- a step up goes to the parent named
unfoldable UpIs : ℕ → Result (Option ℕ) Refusal → Type 0
UpIs parent (Ok None) = Unit
UpIs parent (Ok (Some p)) = parent ≡ p
UpIs parent (Err why) = Unit

up_parent : (count parent : ℕ) {p : ℕ} → parent_of count parent ≡ Ok (Some p) → parent ≡ p
unfolding parent_of UpIs
up_parent count parent e = subst (UpIs parent) e (pick_with (UpIs parent) _ _ _ (λ _. tt) (λ _. pick_with (UpIs parent) _ _ _ (λ _. refl) (λ _. tt)))

-- the survey of all containers
pub record Surveyed (file : List ℕ) (t : Table) (at : ℕ) (bits : List ℕ) : Type 0 where
  pub room : t.count ≤ 64 * length bits
  pub sound : (i : ℕ) → i < at → five_or_shut file t i (item_at file t i) ≡ true
  pub below : (c : ℕ) → c < t.count → (item_at file t c).parent < at → has_bit bits c ≡ lists_it file c (item_at file t (item_at file t c).parent)
  pub above : (c : ℕ) → c < t.count → at ≤ (item_at file t c).parent → has_bit bits c ≡ false

module _ (file : List ℕ) (t : Table) where
  pub survey_start : {bits : List ℕ} → Blank t bits → Surveyed file t 0 bits
  survey_start b = record { room = b.room; sound = λ i h. absurd (omega arith); below = λ c l h. absurd (omega arith); above = λ c l h. b.none c }

  module _ {at : ℕ} {bits : List ℕ} (s : Surveyed file t at bits) where
    pub survey_fresh : Fresh file t at bits
    survey_fresh = record { room = s.room; new = λ c l e. s.above c l (omega arith) }

    pub survey_over : t.count ≤ at → at ≤ t.count → Survey file t t.count bits
    survey_over h l =
        let same : at ≡ t.count = omega arith in
        record { room = s.room; within = omega arith; sound = λ i k. s.sound i (omega arith); broken = λ k. absurd (omega arith); below = λ c k p. s.below c k (omega arith) }

    module _ {item : Item} (is : item ≡ item_at file t at) {told : Bool} (five : told ≡ five_or_shut file t at item) {after : List ℕ} where
      pub survey_stop : at < t.count → told ≡ false → Surveying file t at (λ c. lists_it file c item) bits after told → Survey file t at after
      survey_stop h bad m = record {
        room = m.room;
        within = omega arith;
        sound = s.sound;
        broken = λ _. rw is at (sym five ∙ bad);
        below = λ c l p. m.others c l (λ e. omega arith) ∙ s.below c l p;
      }

      pub survey_turn : told ≡ true → Surveying file t at (λ c. lists_it file c item) bits after told → Surveyed file t (at + 1) after
      survey_turn good m = record {
        room = m.room;
        sound = below_more (λ i. five_or_shut file t i (item_at file t i) ≡ true) at s.sound (rw is at (sym five ∙ good));
        below = λ c l p. below_turn c l p (eqb (item_at file t c).parent at) refl;
        above = λ c l p. m.others c l (λ e. omega arith) ∙ s.above c l (omega arith);
      }
        where
          below_turn : (c : ℕ) → c < t.count → (item_at file t c).parent < at + 1 → (b : Bool) → eqb (item_at file t c).parent at ≡ b
              → has_bit after c ≡ lists_it file c (item_at file t (item_at file t c).parent)
          below_turn c l p true e =
              let here : (item_at file t c).parent ≡ at = eqb-true _ _ e in
              m.own good c l here ∙ ap (lists_it file c) (is ∙ ap (item_at file t) (sym here))
          below_turn c l p false e =
              let ne : (item_at file t c).parent ≡ at → ⊥ = eqb-false _ _ e in
              m.others c l ne ∙ s.below c l (omega arith)

  -- what the survey tells of rules 5 and 6
  module _ {stop : ℕ} {bits : List ℕ} (s : Survey file t stop bits) {index : ℕ} (h : index < t.count) {item : Item} (is : item ≡ item_at file t index) where
    pub five_fails : index ≡ stop → value_opens file item ≡ true → children_good file t index item ≡ false
    five_fails e four =
        let here : stop < t.count = omega arith in
        five_open file t index item four ∙ ap (five_or_shut file t index) is ∙ ap (λ (i : ℕ). five_or_shut file t i (item_at file t i)) e ∙ s.broken here

    pub five_holds : index ≤ stop → (index ≡ stop → ⊥) → value_opens file item ≡ true → children_good file t index item ≡ true
    five_holds l n four = five_open file t index item four ∙ ap (five_or_shut file t index) is ∙ s.sound index (omega arith)

    pub six_bit_set : {parent : ℕ} → parent_of t.count item.parent ≡ Ok (Some parent) → parent < stop → has_bit bits index ≡ parent_good file t index item
    unfolding parent_good parent_keeps
    six_bit_set {parent} up l =
        let named : (item_at file t index).parent ≡ parent = ap (λ (i : Item). i.parent) (sym is) ∙ up_parent t.count item.parent up in
        s.below index h (omega arith) ∙ rw (up, named)

    -- an item that breaks no rule is not where the survey stopped
    pub passes_on : (manner : Manner) → index ≤ stop → broken_rule manner file t index ≡ 0 → index + 1 ≤ stop
    passes_on manner l e = by_case (eqb index stop) refl
      where
        by_case : (b : Bool) → eqb index stop ≡ b → index + 1 ≤ stop
        by_case true same =
            let k = breaks_none_keeps manner file t index e in
            let no-five : children_good file t index item ≡ false = five_fails (eqb-true _ _ same) (ap (value_opens file) is ∙ k.four) in
            let yes-five : children_good file t index item ≡ true = ap (children_good file t index) is ∙ k.five in
            let z : ◌≡◌ {A = ℕ} 0 1 = cc in
            absurd (omega arith)
        by_case false other = let ne : index ≡ stop → ⊥ = eqb-false _ _ other in omega arith

-- zeros have no bit set, and 10,923 words hold a bit for each item that a file can hold
pub blank : (file : List ℕ) (t : Table) (n : ℕ) → InFile file t → 699050 ≤ 64 * n → Blank t (replicate n 0)
blank file t n inside enough =
    record { room = omega (arith, inside.items, inside.short, length-replicate {A = ℕ} n 0); none = none_bit_set n }

pub enough : 699050 ≤ 64 * 10923
enough = omega arith
