-- The number of document 01 that each answer stands for; 0 for a success.
use Rattle.std.specs.Prelude.{ℕ, Result, Ok, Err}
use Rattle.layout.specs.declared.refusal.Refusal.{Refusal}
use Rattle.layout.specs.Refusal.{number}

unfoldable pub started_number : Result (Unit {0}) Refusal → ℕ
started_number (Ok _) = 0
started_number (Err why) = number why
