-- The document's number and values of each answer to a builder call, as they cross to C.
use Rattle.std.specs.Prelude.{Result, ℕ}
use Rattle.layout.specs.declared.refusal.Refusal.{Refusal}
use Rattle.model.specs.Inserted.{Inserted}
use Rattle.build_memory.specs.Memory.{Outcome, outcome}
use Rattle.build_tables.specs.Answer.{added_number, added_table, counted_number, counted_items}
use Rattle.build_values.specs.Answer.{inserted_number, inserted_kind, inserted_at}
use Rattle.answers_build.specs.declared.building.GvdbTable.{GvdbTable}
use Rattle.answers_build.specs.declared.building.GvdbInserted.{GvdbInserted}
use Rattle.answers_build.specs.declared.building.GvdbCount.{GvdbCount}

-- an outcome with its answer as numbers; the memory is the same
unfoldable pub told : {A B : Type 0} → (A → B) → Outcome A → Outcome B
told answer o = outcome (answer o.answer) o.after

unfoldable pub added_answer : Result ℕ Refusal → GvdbTable
added_answer numbered = record { number = added_number numbered; table = added_table numbered }

unfoldable pub inserted_answer : Inserted → GvdbInserted
inserted_answer inserted = record { number = inserted_number inserted; replaced = inserted_kind inserted; at = inserted_at inserted }

unfoldable pub counted_answer : Result ℕ Refusal → GvdbCount
counted_answer counted = record { number = counted_number counted; count = counted_items counted }
