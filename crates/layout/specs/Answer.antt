-- The number of document 01 that each answer stands for; 0 for a success.
use Rattle.std.specs.Prelude.{ℕ, Result, Ok, Err}
use Rattle.layout.specs.declared.table.Table.{Table}
use Rattle.layout.specs.declared.refusal.Refusal.{Refusal}
use Rattle.layout.specs.Refusal.{number}

unfoldable pub pointed_number : Result (Unit {0}) Refusal → ℕ
pointed_number (Ok _) = 0
pointed_number (Err why) = number why

unfoldable pub opened_number : Result Table Refusal → ℕ
opened_number (Ok t) = 0
opened_number (Err why) = number why
