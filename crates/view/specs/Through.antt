-- A value in a nested table: the lookup of the table, and then that of the value at its pointer.
use Rattle.std.specs.Prelude.{ℕ, List, Result, Ok, Err}
use Rattle.layout.specs.declared.refusal.Refusal.{Refusal}
use Rattle.layout.specs.declared.pointer.Pointer.{Pointer}
use Rattle.read_find.specs.Find.{Manner}
use Rattle.read.specs.Lookup.{lookup_value, lookup_table}

unfoldable pub at_looked : Result Pointer Refusal → (ℕ → ℕ → Result Pointer Refusal) → Result Pointer Refusal
at_looked (Ok p) looked = looked p.start p.end
at_looked (Err why) looked = Err why

unfoldable pub nested_value : Manner → List ℕ → ℕ → ℕ → List ℕ → List ℕ → Result Pointer Refusal
nested_value manner file start end table key = at_looked (lookup_table manner file start end table) (λ from to. lookup_value manner file from to key)
