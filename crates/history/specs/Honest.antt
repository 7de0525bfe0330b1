-- Memory that only the builder wrote, and whose tables and items are consistent.
use Rattle.std.specs.Prelude.{ℕ, List}
use Rattle.build_memory.specs.Memory.{table_total, item_total}
use Rattle.history.specs.Items.{Table, item_of, table_of}
use Rattle.history.specs.Tidy.{Tidy}
use Rattle.history.specs.Consistent.{Consistent}

-- with the tables g instead of those that the words say
pub record Good (g : ℕ → Table) (ws ar : List ℕ) : Type 0 where
  pub tidy : Tidy ws ar
  pub consistent : Consistent (table_total ws) (item_total ws) g (item_of ws ar)

abbrev pub Honest : List ℕ → List ℕ → Type 0
Honest ws ar = Good (table_of ws) ws ar
