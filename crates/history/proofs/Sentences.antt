-- What document 01 says of the builder in words, for every memory that calls reach.
use Prim.Native.Nat.{ℕ, suc, ◌+◌, ◌-◌, ◌≤◌, ◌<◌}
use mathlib.Core.Path.{◌≡◌, sym, ap, ◌∙◌}
use native.Mathlib.Numerals.{add-one}
use mathlib.Core.Bool.{false}
use mathlib.Core.List.{List}
use lib.ListN.{length, take, get_or}
use lib.Dec.{ltb}
use borrow.Author.Tests.{ne_eqb}
use native.Mathlib.Omega.{arith}
use mathlib.Core.Bool.{and-false}
use Rattle.build_memory.specs.Memory.{table_total, item_total, table_separator, table_placed, item_table, item_kind, item_guest, key_of}
use Rattle.build_memory.specs.Meaning.{meaning}
use Rattle.layout.specs.Limits.{deepest}
use Rattle.model.specs.Builder.{height}
use Rattle.build_tables.specs.Table.{free_standing}
use Rattle.build_nested.specs.Nest.{held_height, insert_table}
use Rattle.build_nested.proofs.AnswerLaws.{table_24}
use Rattle.build_values.specs.Insert.{insert_value}
use Rattle.build_values.specs.Answer.{inserted_number}
use Rattle.build_values.proofs.AnswerLaws.{value_24}
use Rattle.history.specs.Items.{item_of, table_of}
use Rattle.history.specs.Consistent.{There, Parent}
use Rattle.history.specs.Reached.{Reached}
use Rattle.history.proofs.Height.{height_same}
use Rattle.history.proofs.History.{reached_honest, reached_valid}

module _ (ws ar : List ℕ) (reached : Reached ws ar) where
  -- two items of one table with the same key are one item
  pub keys_distinct : (i j : ℕ) → i < item_total ws → j < item_total ws → item_table ws i ≡ item_table ws j → key_of ws ar i ≡ key_of ws ar j → i ≡ j
  unfolding item_of
  keys_distinct i j a b t k = (reached_honest ws ar reached).consistent.distinct i j a b t k

  -- each prefix of a key that ends at a separator names an item of the table
  pub prefixes_closed : (i : ℕ) → i < item_total ws → (e : ℕ) → 1 ≤ e → e < length (key_of ws ar i) → get_or (key_of ws ar i) (e - 1) 0 ≡ table_separator ws (item_table ws i)
      → There (item_total ws) (item_of ws ar) (item_table ws i) (take e (key_of ws ar i))
  unfolding item_of table_of
  prefixes_closed i a e low high is = (reached_honest ws ar reached).consistent.closed i a e low high is

  -- an item's parent was made before it, is of its table, and its key is the longest proper prefix that ends at a separator: children stand in order of arrival
  pub parents_earlier : (i : ℕ) → i < item_total ws → Parent (item_of ws ar) i (item_of ws ar i) (table_separator ws (item_table ws i))
  unfolding item_of table_of
  parents_earlier i a = (reached_honest ws ar reached).consistent.parents i a

  -- a table that an item holds is known and placed, and no other item holds it
  pub held_placed : (i : ℕ) → i < item_total ws → item_kind ws i ≡ 72 → (item_guest ws i < table_total ws) × (table_placed ws (item_guest ws i) ≡ 1)
  unfolding item_of table_of
  held_placed i a k = let g = (reached_honest ws ar reached).consistent.guests i a k in (g.0, g.1)

  pub held_once_lem : (i j : ℕ) → i < item_total ws → j < item_total ws → item_kind ws i ≡ 72 → item_kind ws j ≡ 72 → item_guest ws i ≡ item_guest ws j → i ≡ j
  unfolding item_of
  held_once_lem i j a b k l e = (reached_honest ws ar reached).consistent.once i j a b k l e

  -- a placed table takes no more inserts, of values or of tables: 24
  placed_not_free : (t : ℕ) → table_placed ws t ≡ 1 → free_standing ws t ≡ false
  unfolding free_standing
  placed_not_free t placed = rw (ne_eqb (table_placed ws t) 0 (λ e. omega arith)) (and-false (ltb t (table_total ws)))

  pub placed_frozen : (t : ℕ) → table_placed ws t ≡ 1
      → ((key value : List ℕ) → inserted_number (insert_value ws ar t key value).answer ≡ 24)
      × ((key : List ℕ) (guest : ℕ) → inserted_number (insert_table ws ar t key guest).answer ≡ 24)
  placed_frozen t placed =
      let valid = reached_valid ws ar reached in
      let no_room = placed_not_free t placed in
      (λ key value. value_24 ws ar t key value valid no_room, λ key guest. table_24 ws ar t key guest valid no_room)

  -- 26 is judged by the height: 1 for a table that holds none, else 1 plus the greatest height held; the receiver would be one higher
  pub deep_by_height : (guest : ℕ) → guest < table_total ws → table_placed ws guest ≡ 0
      → ltb deepest (held_height ws guest + 1 + 1) ≡ ltb deepest (suc (height (meaning ws ar) guest))
  unfolding table_of
  deep_by_height guest known loose =
      ap (ltb deepest) (add-one (held_height ws guest + 1) ∙ ap suc (sym (height_same ws ar (reached_honest ws ar reached) guest known loose)))
