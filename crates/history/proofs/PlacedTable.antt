-- What stands where once a table is placed: its two words, and all others as they were.
use Prim.Native.Nat.{ℕ, ◌+◌, ◌≤◌, ◌<◌}
use native.Mathlib.Nat.{add-zero}
use native.Mathlib.Omega.{arith}
use native.Mathlib.Decide.{dec_lt}
use mathlib.Core.Path.{◌≡◌, sym, ap, ◌∙◌}
use mathlib.Core.List.{List, [], ◌∷◌}
use lib.ListN.{length}
use Rattle.words.proofs.StoreLaws.{length-put, get_put, get_before, get_after}
use Rattle.build_memory.specs.Memory.{word, table_at, table_placed, table_height}
use Rattle.build_nested.specs.Nest.{place_table}

module _ (w : List ℕ) (G h : ℕ) where
  abbrev done : List ℕ
  done = place_table w G h

  abbrev row : List ℕ
  row = 1 ∷ h ∷ []

  pub size : length done ≡ length w
  unfolding place_table
  size = length-put w (table_at G + 1) row

  pub before : (p : ℕ) → p < table_at G + 1 → word done p ≡ word w p
  unfolding place_table
  before p l = get_before w (table_at G + 1) row p l

  pub behind : (p : ℕ) → table_at G + 3 ≤ p → word done p ≡ word w p
  unfolding place_table
  behind p l = get_after w (table_at G + 1) row p (omega arith)

  -- the words of another table
  pub side : (x f : ℕ) → f < 3 → (x ≡ G → ⊥) → word done (table_at x + f) ≡ word w (table_at x + f)
  side x f l ne = by_side (dec_lt x G)
    where
      by_side : Dec (x < G) → word done (table_at x + f) ≡ word w (table_at x + f)
      by_side (yes u) = before (table_at x + f) (omega arith)
      by_side (no u) = behind (table_at x + f) (omega arith)

  module _ (bound : table_at G + 3 ≤ length w) where
    pub mark : table_placed done G ≡ 1
    unfolding place_table
    mark = ap (word done) (sym (add-zero (table_at G + 1))) ∙ get_put w (table_at G + 1) row 0 (omega arith) (omega arith)

    pub height : table_height done G ≡ h
    unfolding place_table
    height = (let e : table_at G + 2 ≡ table_at G + 1 + 1 = omega arith in ap (word done) e) ∙ get_put w (table_at G + 1) row 1 (omega arith) (omega arith)
