-- Opening a table, from document 01, 'Layout of a table' and 'Order'.
use Rattle.std.specs.Prelude.{ℕ, ◌+◌, ◌*◌, ◌-◌, ◌/◌, ◌%◌, ◌≤◌, List, length, ltb, eqb, Result, Ok, Err}
use Rattle.layout.specs.declared.refusal.Refusal.{Refusal}
use Rattle.words.specs.Choice.{pick}
use Rattle.words.specs.Field.{word_at}
use Rattle.words.specs.Bits.{bloom_count}
use Rattle.layout.specs.declared.refusal.Refusal.TheVariants.{FileTooLong, TableTooShort, BloomTooLong, BucketsTooLong, ItemsUneven}
use Rattle.layout.specs.declared.table.Table.{Table}
use Rattle.layout.specs.Pointer.{open_pointer}
use Rattle.layout.specs.Limits.{longest_file}
use Rattle.layout.specs.Sizes.{head_size, bucket_size, record_size}

-- a table of `size` bytes with so many bloom words and buckets: 5, 6, 7, or its parts
unfoldable pub table_of : ℕ → ℕ → ℕ → ℕ → Result Table Refusal
table_of start size blooms buckets =
    pick (ltb size (head_size + 4 * blooms)) (Err BloomTooLong)
    (pick (ltb size (head_size + 4 * blooms + bucket_size * buckets)) (Err BucketsTooLong)
    (pick (eqb ((size - (head_size + 4 * blooms + bucket_size * buckets)) % record_size) 0)
    (Ok (record {
      start = start;
      blooms = blooms;
      buckets = buckets;
      items = start + (head_size + 4 * blooms + bucket_size * buckets);
      count = (size - (head_size + 4 * blooms + bucket_size * buckets)) / record_size;
    }))
    (Err ItemsUneven)))

-- word 0: its low 27 bits are the number of bloom words; word 1: the number of buckets; 4 where they are missing
unfoldable pub table_in : List ℕ → ℕ → ℕ → Result Table Refusal
table_in file start end =
    pick (ltb (end - start) head_size) (Err TableTooShort)
    (table_of start (end - start) (bloom_count (word_at file start)) (word_at file (start + 4)))

-- a pointer's refusal is the table's
abbrev pub where_inside : Result (Unit {0}) Refusal → Result Table Refusal → Result Table Refusal
where_inside (Ok _) opened = opened
where_inside (Err why) opened = Err why

-- opening is 1, the pointer's errors, 4, 5, 6, 7
unfoldable pub open_table : List ℕ → ℕ → ℕ → Result Table Refusal
open_table file start end =
    pick (ltb longest_file (length file)) (Err FileTooLong)
    (where_inside (open_pointer (length file) start end 4) (table_in file start end))

-- the table lies in the file, which is short: what every reader of a table needs
pub record InFile (file : List ℕ) (t : Table) : Type 0 where
  pub short : length file ≤ longest_file
  pub head : t.start + head_size + 4 * t.blooms + bucket_size * t.buckets ≤ t.items
  pub items : t.items + record_size * t.count ≤ length file
