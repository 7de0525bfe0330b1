-- The order of refusals in the document's words: for each number, what was passed before it and what it is given for.
use Rattle.std.specs.Prelude.{Ok}
use Prim.Native.Nat.{ℕ, ◌≤◌, ◌<◌}
use mathlib.Core.Path.{◌≡◌}
use mathlib.Core.Bool.{true, false}
use mathlib.Core.List.{List}
use lib.ListN.{length}
use borrow.Author.Tests.{lt-ltb, le-ltb, lt-leb, le-leb, eq-eqb, ne_eqb}
use Rattle.words.specs.Choice.{pick}
use Rattle.layout.specs.Limits.{most_tables}
use Rattle.model.specs.Builder.{separator_of}
use Rattle.build_memory.specs.Memory.{item_total, table_total, valid}
use Rattle.build_tables.specs.Table.{add_table, new_table, count_of, item_count}
use Rattle.build_tables.specs.Answer.{added_number, counted_number, counted_items}

-- ---- a new table: 29, 28, 27

module _ (ws ar separator : List ℕ) where
  pub new_29 : valid ws (length ar) ≡ false → added_number (new_table ws ar separator).answer ≡ 29
  unfolding new_table added_number pick
  new_29 h = simp h

  module _ (ok : valid ws (length ar) ≡ true) where
    pub new_28 : separator_of separator ≡ 0 → added_number (new_table ws ar separator).answer ≡ 28
    unfolding new_table added_number pick
    new_28 h = simp (ok, eq-eqb _ _ h)

    module _ (inside : separator_of separator ≡ 0 → ⊥) where
      pub new_27 : most_tables ≤ table_total ws → added_number (new_table ws ar separator).answer ≡ 27
      unfolding new_table add_table added_number pick
      new_27 h = simp (ok, ne_eqb _ _ inside, le-leb _ _ h)

      pub new_0 : table_total ws < most_tables → (new_table ws ar separator).answer ≡ Ok (table_total ws)
      unfolding new_table add_table pick
      new_0 h = simp (ok, ne_eqb _ _ inside, lt-leb _ _ h)

-- ---- the item count: 29, 24

module _ (ws ar : List ℕ) (t : ℕ) where
  pub count_29 : valid ws (length ar) ≡ false → counted_number (item_count ws ar t) ≡ 29
  unfolding item_count counted_number pick
  count_29 h = simp h

  pub count_24 : valid ws (length ar) ≡ true → table_total ws ≤ t → counted_number (item_count ws ar t) ≡ 24
  unfolding item_count counted_number pick
  count_24 ok h = simp (ok, le-ltb _ _ h)

  pub count_0 : valid ws (length ar) ≡ true → t < table_total ws → counted_items (item_count ws ar t) ≡ count_of ws t (item_total ws)
  unfolding item_count counted_items pick
  count_0 ok h = simp (ok, lt-ltb _ _ h)
