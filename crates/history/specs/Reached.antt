-- The memories that a history of calls reaches: a fresh start on any memory that is long enough, then any calls with any arguments,
-- accepted or refused.
use Rattle.std.specs.Prelude.{ℕ, ◌≤◌, List, length}
use Rattle.build_memory.specs.Memory.{least_words, fresh_words}
use Rattle.build_tables.specs.Table as tables
use Rattle.build_values.specs.Insert as values
use Rattle.build_nested.specs.Nest as nests

pub data Reached : List ℕ → List ℕ → Type 0 where
  fresh : (ws ar : List ℕ) → least_words ≤ length ws → Reached (fresh_words ws (length ar)) ar
  new_table : (ws ar : List ℕ) → Reached ws ar → (separator : List ℕ) → Reached (tables.new_table ws ar separator).after.words (tables.new_table ws ar separator).after.arena
  insert_value : (ws ar : List ℕ) → Reached ws ar → (t : ℕ) (key value : List ℕ)
      → Reached (values.insert_value ws ar t key value).after.words (values.insert_value ws ar t key value).after.arena
  insert_table : (ws ar : List ℕ) → Reached ws ar → (t : ℕ) (key : List ℕ) (guest : ℕ)
      → Reached (nests.insert_table ws ar t key guest).after.words (nests.insert_table ws ar t key guest).after.arena
