-- The laws of the rules that a write judges: for the code that judges them, and for those who are told that they hold.
use Prim.Native.Nat.{ℕ, zero, suc, ◌+◌, ◌≤◌, ◌<◌}
use native.Mathlib.Numerals.{add-one}
use native.Mathlib.Omega.{arith}
use mathlib.Core.Path.{◌≡◌, refl, sym, ap, ap₂, ◌∙◌}
use mathlib.Core.Bool.{Bool, true, false, ◌&&◌, ◌||◌, not}
use mathlib.Core.List.{List}
use borrow.Author.Tests.{eqb-true, eqb-false, eq-eqb, ne_eqb, ltb-true}
use lib.Dec.{eqb, ltb}
use lib.ListN.{length, get_or, take, drop, length-drop, set, replicate, get_or-replicate}
use lib.Seq.{get_or-drop, get_or-set_same, get_or-set_other}
use Rattle.std.specs.List.{list_all}
use Rattle.std.proofs.lemmas.List.Folds.{list_all_more}
use Rattle.words.specs.Choice.{pick}
use Rattle.words.specs.Below.{all_below, some_below}
use Rattle.words.proofs.ChoiceLaws.{both, or_one}
use Rattle.words.proofs.BelowLaws.{all_below_lem}
use Rattle.layout.specs.Limits.{most_tables, deepest}
use Rattle.layout.specs.Item.{no_item}
use Rattle.layout.specs.Kind.{table_kind}
use Rattle.build_memory.specs.Memory.{links_from, table_total, item_total, table_placed, table_height, item_table, item_kind, item_guest}
use Rattle.build_rules.specs.Valid.{table_known, ranges_valid, key_valid, parent_valid, height_limit, guest_placed, guest_valid, holds_table, held_once, item_valid, link_empty, GuestsFew}

-- ---- an item's ranges

module _ (ws : List ℕ) (i : ℕ) where
  pub ranges_table : ranges_valid ws i ≡ true → item_table ws i < table_total ws
  unfolding ranges_valid table_known
  ranges_table e = ltb-true _ _ (both (ltb (item_table ws i) (table_total ws)) _ e).0

-- ---- what it holds

module _ (ws : List ℕ) (t : ℕ) where
  pub limit_loose : table_placed ws t ≡ 0 → deepest ≡ height_limit ws t
  unfolding height_limit pick
  limit_loose e = simp (eq-eqb _ _ e)

  pub limit_placed : (table_placed ws t ≡ 0 → ⊥) → table_height ws t ≡ height_limit ws t
  unfolding height_limit pick
  limit_placed e = simp (ne_eqb _ _ e)

module _ (ws : List ℕ) (i : ℕ) where
  -- an item that holds a table holds one that is known
  pub valid_guest : guest_valid ws i ≡ true → item_kind ws i ≡ table_kind → item_guest ws i < table_total ws
  unfolding guest_valid guest_placed
  valid_guest e k =
      let f : guest_placed ws (item_table ws i) (item_guest ws i) ≡ true = simp (eq-eqb _ _ k) at e in
      ltb-true _ _ (both (ltb (item_guest ws i) (table_total ws)) _ f).0

-- ---- an item, and all

module _ (ws ar : List ℕ) (i : ℕ) where
  pub item_guest_lem : item_valid ws ar i ≡ true → guest_valid ws i ≡ true
  unfolding item_valid
  item_guest_lem e =
      (both (parent_valid ws ar i) (guest_valid ws i) (both (key_valid ws ar i) _ (both (ranges_valid ws i) _ e).1).1).1

pub guests_few : (ws ar : List ℕ) → table_total ws ≤ most_tables → all_below (item_valid ws ar) (item_total ws) ≡ true → GuestsFew ws
guests_few ws ar few e = record {
  below = λ i l k. let h = valid_guest ws i (item_guest_lem ws ar i (all_below_lem (item_valid ws ar) (item_total ws) e i l)) k in omega arith;
}

-- ---- held once: a flag for each table that was met

pub guest_low : (ws : List ℕ) → GuestsFew ws → (i kind guest : ℕ) → i < item_total ws → kind ≡ item_kind ws i → kind ≡ table_kind → guest ≡ item_guest ws i → guest < most_tables
guest_low ws few i kind guest l is own eg = let h = few.below i l (sym is ∙ own) in omega arith

module _ (ws : List ℕ) where
  abbrev pub Met : List Bool → ℕ → Type 0
  Met met i = (t : ℕ) → t < most_tables → get_or met t false ≡ some_below (holds_table ws t) i

  pub met_none : Met (replicate most_tables false) 0
  unfolding some_below
  met_none t h = get_or-replicate most_tables t false false h

  or_none : (p q : Bool) → q ≡ false → (p || q) ≡ p
  or_none true q e = refl
  or_none false q e = e

  met_same : (t i : ℕ) → holds_table ws t i ≡ false → some_below (holds_table ws t) (i + 1) ≡ some_below (holds_table ws t) i
  unfolding some_below
  met_same t i e = rw add-one (or_none (some_below (holds_table ws t) i) (holds_table ws t i) e)

  module _ (i kind : ℕ) (is : kind ≡ item_kind ws i) where
    holds-none : (kind ≡ table_kind → ⊥) → (t : ℕ) → holds_table ws t i ≡ false
    unfolding holds_table
    holds-none ne t = simp (← is, ne_eqb _ _ ne)

    pub met_pass : (kind ≡ table_kind → ⊥) → (met : List Bool) → Met met i → Met met (i + 1)
    met_pass ne met inv t h = inv t h ∙ sym (met_same t i (holds-none ne t))

    pub once_pass : (kind ≡ table_kind → ⊥) → held_once ws i ≡ true
    unfolding held_once
    once_pass ne = simp (← is, ne_eqb _ _ ne)

    module _ (own : kind ≡ table_kind) (guest : ℕ) (eg : guest ≡ item_guest ws i) where
      once_is : held_once ws i ≡ not (some_below (holds_table ws guest) i)
      unfolding held_once
      once_is = simp (← is, eq-eqb _ _ own, ← eg)

      pub once_twice : some_below (holds_table ws guest) i ≡ true → held_once ws i ≡ false
      once_twice e = once_is ∙ ap not e

      pub once_first : some_below (holds_table ws guest) i ≡ false → held_once ws i ≡ true
      once_first e = once_is ∙ ap not e

      holds-one : holds_table ws guest i ≡ true
      unfolding holds_table
      holds-one = simp (← is, eq-eqb _ _ own, eq-eqb _ _ (sym eg))

      holds_other : (t : ℕ) → (guest ≡ t → ⊥) → holds_table ws t i ≡ false
      unfolding holds_table
      holds_other t ne = simp (← is, eq-eqb _ _ own, ← eg, ne_eqb _ _ ne)

      some_one : some_below (holds_table ws guest) (i + 1) ≡ true
      unfolding some_below
      some_one = rw add-one (or_one (some_below (holds_table ws guest) i) (holds_table ws guest i) holds-one)

      pub met_mark : (met : List Bool) → length met ≡ most_tables → guest < most_tables → Met met i → Met (set met guest true) (i + 1)
      met_mark met size low inv t h = by_ranges (eqb guest t) refl
        where
          by_ranges : (q : Bool) → eqb guest t ≡ q → get_or (set met guest true) t false ≡ some_below (holds_table ws t) (i + 1)
          by_ranges true e =
              let f = eqb-true guest t e in
              ap (λ (x : ℕ). get_or (set met guest true) x false) (sym f) ∙ get_or-set_same met guest true false (omega arith) ∙ sym some_one
              ∙ ap (λ (x : ℕ). some_below (holds_table ws x) (i + 1)) f
          by_ranges false e =
              get_or-set_other met guest t true false (λ (f : t ≡ guest). eqb-false guest t e (sym f)) ∙ inv t h ∙ sym (met_same t i (holds_other t (eqb-false guest t e)))

-- ---- the links

-- the first n links, as a row of words
module _ (ws : List ℕ) where
  link_word : (k : ℕ) → eqb (get_or (drop links_from ws) k 0) no_item ≡ link_empty ws k
  unfolding link_empty
  link_word k = ap (λ (w : ℕ). eqb w no_item) (get_or-drop links_from ws k 0)

  pub links_row : (n : ℕ) → links_from + n ≤ length ws → list_all (λ w. eqb w no_item) (take n (drop links_from ws)) ≡ all_below (link_empty ws) n
  unfolding all_below
  links_row zero h = refl
  links_row (suc n) h =
      ap (λ (k : ℕ). list_all (λ w. eqb w no_item) (take k (drop links_from ws))) (sym (add-one n))
      ∙ list_all_more (λ w. eqb w no_item) (drop links_from ws) n 0 (omega (arith, length-drop links_from ws))
      ∙ ap₂ (λ a b. a && b) (links_row n (omega arith)) (link_word n)

-- ---- the judgement
