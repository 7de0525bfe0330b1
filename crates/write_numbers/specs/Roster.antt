-- A roster: the items of every table in the order in which they are laid. Its tables stand as those of a numbered table do. In words:
--   2t, 2t + 1   table t (64 of them): its first slot, and its count of items, which stand in the slots behind one another
--   128 + s      the item in slot s (1,024 of them)
--   1152 + i     the laid index of item i (1,024 of them)
--   2176 + s     the word of bucket (s - first slot) of the table that slot s is of (1,024 of them)
use Rattle.std.specs.Prelude.{ℕ, ◌+◌, ◌≤◌, ◌<◌, ◌≡◌, List, length, get_or}
use Rattle.model.specs.Table.{State, rows_of}
use Rattle.layout.specs.Limits.{most_items, most_tables}
use Rattle.build_memory.specs.Memory.{item_total, item_table}
use Rattle.build_memory.specs.Meaning.{meaning}
use Rattle.image.specs.Index.{hashes_of, bucket_start, item_of, laid_index}
use Rattle.write_parts.specs.Numbered.{slots_from, first_slot, slot_count}

abbrev pub indices_from : ℕ
indices_from = slots_from + most_items

abbrev pub buckets_from : ℕ
buckets_from = indices_from + most_items

abbrev pub roster_size : ℕ
roster_size = buckets_from + most_items

-- the tables that a builder's memory means
unfoldable pub state_of : List ℕ → List ℕ → State
state_of ws ar = rows_of (meaning ws ar).items

module _ (roster : List ℕ) where
  unfoldable pub slot_item : ℕ → ℕ
  slot_item s = get_or roster (slots_from + s) 0

  unfoldable pub item_index : ℕ → ℕ
  item_index i = get_or roster (indices_from + i) 0

  unfoldable pub bucket_word : ℕ → ℕ
  bucket_word s = get_or roster (buckets_from + s) 0

-- the roster says, for a rule for a byte of the hash, what the definitions of `image` say of every table
pub record Rostered (rule : ℕ → ℕ) (ws ar roster : List ℕ) : Type 0 where
  pub long : length roster ≡ roster_size
  pub counts : (t : ℕ) → t < most_tables → slot_count roster t ≡ length (state_of ws ar t).members
  pub inside : (t : ℕ) → t < most_tables → first_slot roster t + slot_count roster t ≤ most_items
  pub items : (t k : ℕ) → t < most_tables → k < slot_count roster t → slot_item roster (first_slot roster t + k) ≡ item_of rule (state_of ws ar t) k
  pub indices : (i : ℕ) → i < item_total ws → item_index roster i ≡ laid_index rule (state_of ws ar (item_table ws i)) i
  pub buckets : (t b : ℕ) → t < most_tables → b < slot_count roster t → bucket_word roster (first_slot roster t + b) ≡ bucket_start (hashes_of rule (state_of ws ar t)) b
