-- The laws of the memory's layout, of total reads, of and the rules that every call judges.
use Prim.Native.Nat.{ℕ, ◌+◌, ◌-◌, ◌≤◌, ◌<◌}
use native.Mathlib.Nat.{add-sub_cancel_left}
use native.Mathlib.Omega.{arith}
use mathlib.Core.Path.{◌≡◌, refl, sym, ap, ◌∙◌}
use mathlib.Core.Bool.{Bool, true, false, ◌&&◌}
use mathlib.Core.List.{List, [], ◌∷◌}
use borrow.Author.Tests.{eqb-true, leb-true, le-leb, lt-leb, eq-eqb, ne_eqb}
use lib.Dec.{leb}
use lib.ListN.{length, take, drop, length-drop, drop_of_length-le}
use lib.Seq.{take_all, take-nil}
use Rattle.words.specs.Store.{part}
use Rattle.words.proofs.ChoiceLaws.{both}
use Rattle.layout.specs.Limits.{most_items, most_tables}
use Rattle.build_memory.specs.Memory.{least_words, word, table_total, item_total, room_used, all, rules, valid, Valid}

-- ---- a total read

pub part_none : (l : List ℕ) (at size : ℕ) → length l ≤ at → [] ≡ part l at size
part_none l at size h = sym (ap (take size) (drop_of_length-le l h) ∙ take-nil size)

pub part_rest : (l : List ℕ) (at size : ℕ) → length l - at ≤ size → take (length l - at) (drop at l) ≡ part l at size
part_rest l at size h =
    let n : length (drop at l) ≡ length l - at = length-drop at l in
    take_all (length l - at) (drop at l) (omega arith) ∙ sym (take_all size (drop at l) (omega arith))

pub part_mid : (l : List ℕ) (at size : ℕ) → take (at + size - at) (drop at l) ≡ part l at size
part_mid l at size = ap (λ (n : ℕ). take n (drop at l)) (add-sub_cancel_left at size)

-- ---- the rules, as facts

abbrev Each : List Bool → Type 0
Each [] = Unit {0}
Each (test ∷ tests) = (test ≡ true) × Each tests

all_each : (tests : List Bool) → all tests ≡ true → Each tests
unfolding all
all_each [] e = tt
all_each (test ∷ tests) e = let h = both test (all tests) e in (h.0, all_each tests h.1)

pub valid_facts : (ws : List ℕ) (arena : ℕ) → valid ws arena ≡ true → Valid ws arena
unfolding valid
valid_facts ws arena e =
    let h = all_each (rules ws arena) e in
    record {
      long = leb-true _ _ h.0;
      words = eqb-true _ _ h.1.0;
      room = eqb-true _ _ h.1.1.0;
      tables = leb-true _ _ h.1.1.1.0;
      items = leb-true _ _ h.1.1.1.1.0;
      used = leb-true _ _ h.1.1.1.1.1.0;
    }

pub valid-holds : (ws : List ℕ) (arena : ℕ) → Valid ws arena → valid ws arena ≡ true
unfolding valid all
valid-holds ws arena s =
    simp (le-leb _ _ s.long, eq-eqb _ _ s.words, eq-eqb _ _ s.room, le-leb _ _ s.tables, le-leb _ _ s.items, le-leb _ _ s.used)

-- the judgement, test by test
module _ (ws : List ℕ) (arena : ℕ) where
  pub judge_short : length ws < least_words → false ≡ valid ws arena
  unfolding valid all
  judge_short h = simp (lt-leb _ _ h)

  module _ (long : least_words ≤ length ws) where
    pub judge_words : (word ws 0 ≡ length ws → ⊥) → false ≡ valid ws arena
    unfolding valid all
    judge_words h = simp (le-leb _ _ long, ne_eqb _ _ h)

    module _ (same : word ws 0 ≡ length ws) where
      pub judge_room : (word ws 1 ≡ arena → ⊥) → false ≡ valid ws arena
      unfolding valid all
      judge_room h = simp (le-leb _ _ long, eq-eqb _ _ same, ne_eqb _ _ h)

      pub judge_counts : word ws 1 ≡ arena
          → (leb (table_total ws) most_tables && leb (item_total ws) most_items) && leb (room_used ws) arena ≡ valid ws arena
      unfolding valid all
      judge_counts h = simp (le-leb _ _ long, eq-eqb _ _ same, eq-eqb _ _ h) (regroup (leb (table_total ws) most_tables) (leb (item_total ws) most_items) (leb (room_used ws) arena))
        where
          regroup : (p q r : Bool) → (p && q) && r ≡ p && (q && (r && true))
          regroup true true true = refl
          regroup true true false = refl
          regroup true false r = refl
          regroup false q r = refl
