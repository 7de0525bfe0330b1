-- A new table: 29, 28, 27; and the count of a table's items: 29, 24.
use Rattle.std.specs.Prelude.{ℕ, zero, suc, ◌+◌, Bool, ◌&&◌, List, [], ◌∷◌, length, ltb, leb, eqb, Result, Ok, Err}
use Rattle.words.specs.Choice.{pick}
use Rattle.words.specs.Store.{put_at}
use Rattle.layout.specs.declared.refusal.Refusal.{Refusal}
use Rattle.layout.specs.declared.refusal.Refusal.TheVariants.{MemoryBroken, TableUnknown, TooManyTables, SeparatorOutside}
use Rattle.layout.specs.Limits.{most_tables}
use Rattle.model.specs.Builder.{separator_of}
use Rattle.build_memory.specs.Memory.{table_at, table_total, item_total, table_placed, item_table, valid, memory, Outcome, outcome}

-- a free-standing table: known and not placed
unfoldable pub free_standing : List ℕ → ℕ → Bool
free_standing ws t = ltb t (table_total ws) && eqb (table_placed ws t) 0

abbrev pub not_added : Refusal → List ℕ → List ℕ → Outcome (Result ℕ Refusal)
not_added why ws ar = outcome (Err why) (memory ws ar)

-- the next table, not placed
unfoldable pub add_table : List ℕ → List ℕ → ℕ → Outcome (Result ℕ Refusal)
add_table ws ar separator =
    pick (leb most_tables (table_total ws)) (not_added TooManyTables ws ar)
    (outcome (Ok (table_total ws))
    (memory (put_at (put_at ws (table_at (table_total ws)) (separator ∷ 0 ∷ 0 ∷ [])) 2 ((table_total ws + 1) ∷ [])) ar))

unfoldable pub new_table : List ℕ → List ℕ → List ℕ → Outcome (Result ℕ Refusal)
new_table ws ar separator =
    pick (valid ws (length ar))
    (pick (eqb (separator_of separator) 0) (not_added SeparatorOutside ws ar) (add_table ws ar (separator_of separator)))
    (not_added MemoryBroken ws ar)

-- how many of the first n items are of table t
unfoldable pub count_of : List ℕ → ℕ → ℕ → ℕ
count_of ws t zero = 0
count_of ws t (suc n) = pick (eqb (item_table ws n) t) (suc (count_of ws t n)) (count_of ws t n)

-- a table that is placed has its count too
unfoldable pub item_count : List ℕ → List ℕ → ℕ → Result ℕ Refusal
item_count ws ar t =
    pick (valid ws (length ar))
    (pick (ltb t (table_total ws)) (Ok (count_of ws t (item_total ws))) (Err TableUnknown))
    (Err MemoryBroken)
