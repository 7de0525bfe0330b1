-- The number of document 01 that each answer stands for, 0 for a success, and the values that it carries.
use Rattle.std.specs.Prelude.{ℕ, Result, Ok, Err}
use Rattle.layout.specs.declared.refusal.Refusal.{Refusal}
use Rattle.layout.specs.Refusal.{number}

unfoldable pub added_number : Result ℕ Refusal → ℕ
added_number (Ok t) = 0
added_number (Err why) = number why

-- the new table's number
unfoldable pub added_table : Result ℕ Refusal → ℕ
added_table (Ok t) = t
added_table (Err why) = 0

unfoldable pub counted_number : Result ℕ Refusal → ℕ
counted_number (Ok n) = 0
counted_number (Err why) = number why

unfoldable pub counted_items : Result ℕ Refusal → ℕ
counted_items (Ok n) = n
counted_items (Err why) = 0
