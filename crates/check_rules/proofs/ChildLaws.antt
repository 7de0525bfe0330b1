-- Surveying a container's children: one child, the loop over its list, and what it leaves.
use Prim.Native.Nat.{ℕ, ◌+◌, ◌*◌, ◌<◌}
use mathlib.Core.Path.{◌≡◌, refl, sym, ap, ◌∙◌, subst}
use mathlib.Core.List.{List}
use mathlib.Core.Bool.{Bool, true, false, not, ◌&&◌, ◌||◌}
use native.Mathlib.Numerals.{add-one}
use native.Mathlib.Omega.{arith}
use lib.ListN.{length}
use lib.Dec.{eqb, ltb}
use borrow.Author.Tests.{eq-eqb, ne_eqb, eqb-true, eqb-false, ltb-true}
use Rattle.words.specs.Choice.{pick}
use Rattle.words.specs.Below.{all_below, some_below}
use Rattle.words.proofs.ChoiceLaws.{both, pick_true, pick-false}
use Rattle.words.proofs.BelowLaws.{below_some, all_fails, all_turn}
use Rattle.layout.specs.declared.table.Table.{Table}
use Rattle.layout.specs.declared.item.Item.{Item}
use Rattle.layout.specs.Item.{item_at}
use Rattle.check_rules.specs.Bits.{has_bit, with_bit}
use Rattle.read_listing.specs.Children.{child_at}
use Rattle.check_rules.specs.Rules.{among, child_good, value_opens, children_good, lists_it}
use Rattle.check_rules.specs.Survey.{fresh_child, after_child, five_or_shut, Fresh, Surveying}
use Rattle.check_rules.proofs.BitsLaws.{bit_same, bit_other, length_bit}

pub three : (s t u : Bool) → (s && (t && u)) ≡ true → (s ≡ true) × (t ≡ true) × (u ≡ true)
three s t u e =
    let outer = both s (t && u) e in
    let inner = both t u outer.1 in
    (outer.0, inner.0, inner.1)

both_same : (s t x y : Bool) → (s ≡ true → t ≡ true → x ≡ y) → (s && (t && x)) ≡ (s && (t && y))
both_same true true x y h = h refl refl
both_same true false x y h = refl
both_same false t x y h = refl

-- one child more of a list
among_same : (file : List ℕ) (from k c : ℕ) → child_at file from k ≡ c → among file from (k + 1) c ≡ true
unfolding among
among_same file from k c e = below_some (λ j. eqb (child_at file from j) c) (k + 1) k (omega arith) (eq-eqb _ _ e)

among_other : (file : List ℕ) (from k c : ℕ) → (child_at file from k ≡ c → ⊥) → among file from (k + 1) c ≡ among file from k c
unfolding among some_below
among_other file from k c n = rw (add-one, ne_eqb _ _ n) (by_case (some_below (λ j. eqb (child_at file from j) c) k))
  where
    by_case : (b : Bool) → (b || false) ≡ b
    by_case true = refl
    by_case false = refl

module _ (file : List ℕ) (t : Table) (index from : ℕ) (before : List ℕ) where
  pub walk_start : Fresh file t index before → Surveying file t index (among file from 0) before before true
  unfolding among some_below
  walk_start f = record { room = f.room; others = λ c l n. refl; own = λ w c l e. f.new c l e }

  module _ (k : ℕ) {bits : List ℕ} (m : Surveying file t index (among file from k) before bits true) where
    -- the bits tell whether a child came before
    pub child_fresh : fresh_child file t index bits (child_at file from k) ≡ child_good file t index from k
    unfolding fresh_child child_good
    child_fresh =
        both_same _ _ _ _ (λ below own. ap not (m.own refl (child_at file from k) (ltb-true _ _ below) (eqb-true _ _ own)))

    pub walk_fails : (n : ℕ) → Surveying file t index (among file from n) before bits false
    walk_fails n = record { room = m.room; others = m.others; own = λ w c l e. let z : ◌≡◌ {A = ℕ} 0 1 = cc in absurd (omega arith) }

    module _ (fresh : fresh_child file t index bits (child_at file from k) ≡ true) where
      parts : (ltb (child_at file from k) t.count ≡ true) × (eqb (item_at file t (child_at file from k)).parent index ≡ true) × (not (has_bit bits (child_at file from k)) ≡ true)
      unfolding fresh_child
      parts = three _ _ _ fresh

      child_below : child_at file from k < t.count
      child_below = ltb-true _ _ parts.0

      child_names : (item_at file t (child_at file from k)).parent ≡ index
      child_names = eqb-true _ _ parts.1

      in_room : child_at file from k < 64 * length bits
      in_room = omega (arith, child_below, m.room)

      joined_turn : (c : ℕ) → c < t.count → (item_at file t c).parent ≡ index → has_bit (with_bit bits (child_at file from k)) c ≡ among file from (k + 1) c
      joined_turn c l e = by_case (eqb c (child_at file from k)) refl
        where
          by_case : (b : Bool) → eqb c (child_at file from k) ≡ b → has_bit (with_bit bits (child_at file from k)) c ≡ among file from (k + 1) c
          by_case true same =
              let is : c ≡ child_at file from k = eqb-true _ _ same in
              ap (has_bit (with_bit bits (child_at file from k))) is ∙ bit_same bits (child_at file from k) in_room ∙ sym (among_same file from k c (sym is))
          by_case false other =
              let ne : c ≡ child_at file from k → ⊥ = eqb-false _ _ other in
              bit_other bits (child_at file from k) in_room c ne ∙ m.own refl c l e ∙ sym (among_other file from k c (λ s. ne (sym s)))

      pub walk_turn : Surveying file t index (among file from (k + 1)) before (with_bit bits (child_at file from k)) true
      walk_turn = record {
        room = omega (arith, m.room, length_bit bits (child_at file from k));
        others = λ c l n. bit_other bits (child_at file from k) in_room c (λ e. n (ap (λ (j : ℕ). (item_at file t j).parent) e ∙ child_names)) ∙ m.others c l n;
        own = λ w c l e. joined_turn c l e;
      }

-- a turn, from what the test of a child answered and left
module _ (file : List ℕ) (t : Table) (index from : ℕ) (before : List ℕ) (k : ℕ) {bits : List ℕ} (m : Surveying file t index (among file from k) before bits true)
    {child : ℕ} (is : child ≡ child_at file from k) {r : Bool} {after : List ℕ} (said : r ≡ fresh_child file t index bits child) (wrote : after ≡ after_child r bits child) where
  said_good : r ≡ child_good file t index from k
  said_good = said ∙ ap (fresh_child file t index bits) is ∙ child_fresh file t index from before k m

  pub turn_fails : (n : ℕ) → k < n → r ≡ false → (false ≡ all_below (child_good file t index from) n) × Surveying file t index (among file from n) before after false
  unfolding after_child pick
  turn_fails n l no_more =
      let left : after ≡ bits = wrote ∙ ap (λ (b : Bool). after_child b bits child) no_more in (
        sym (all_fails (child_good file t index from) n k l (sym said_good ∙ no_more)),
        subst (λ (z : List ℕ). Surveying file t index (among file from n) before z false) (sym left) (walk_fails file t index from before k m n),
      )

  pub turn_goes : all_below (child_good file t index from) k ≡ true → r ≡ true
      → (all_below (child_good file t index from) (k + 1) ≡ true) × Surveying file t index (among file from (k + 1)) before after true
  unfolding after_child pick
  turn_goes all well =
      let left : after ≡ with_bit bits (child_at file from k) = wrote ∙ ap (λ (b : Bool). after_child b bits child) well ∙ ap (with_bit bits) is in
      let fresh : fresh_child file t index bits (child_at file from k) ≡ true = sym (said ∙ ap (fresh_child file t index bits) is) ∙ well in (
        all_turn (child_good file t index from) k all (sym said_good ∙ well),
        subst (λ (z : List ℕ). Surveying file t index (among file from (k + 1)) before z true) (sym left) (walk_turn file t index from before k m fresh),
      )

-- the bits of a container's children, from those of its list
module _ (file : List ℕ) (t : Table) (index : ℕ) (item : Item) where
  pub no_bit : {bits : List ℕ} → Fresh file t index bits → ((c : ℕ) → false ≡ lists_it file c item)
      → Surveying file t index (λ c. lists_it file c item) bits bits true
  no_bit f none = record { room = f.room; others = λ c l n. refl; own = λ w c l e. f.new c l e ∙ none c }

  pub as_listed : (from n : ℕ) {before after : List ℕ} {well : Bool} → ((c : ℕ) → among file from n c ≡ lists_it file c item)
      → Surveying file t index (among file from n) before after well → Surveying file t index (λ c. lists_it file c item) before after well
  as_listed from n same m = record { room = m.room; others = m.others; own = λ w c l e. m.own w c l e ∙ same c }

  pub five_other : children_good file t index item ≡ true → true ≡ five_or_shut file t index item
  unfolding five_or_shut pick
  five_other e = by_case (value_opens file item)
    where
      by_case : (b : Bool) → true ≡ pick b (children_good file t index item) true
      by_case true = sym e
      by_case false = refl

  pub five_shut : value_opens file item ≡ false → true ≡ five_or_shut file t index item
  unfolding five_or_shut
  five_shut e = sym (pick-false _ _ e)

  pub five_open : value_opens file item ≡ true → children_good file t index item ≡ five_or_shut file t index item
  unfolding five_or_shut
  five_open e = sym (pick_true _ _ e)
