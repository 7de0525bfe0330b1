-- The insert of a table into another: 29, 24 for the receiver, 24 for the guest, 25, 8, 20, 21, 26, 22, 23.
use Rattle.std.specs.Prelude.{ℕ, ◌+◌, ◌&&◌, List, [], ◌∷◌, length, ltb, eqb, Ok, Err, Some, None}
use Rattle.model.specs.Inserted.{Inserted}
use Rattle.words.specs.Choice.{pick}
use Rattle.words.specs.Store.{put_at}
use Rattle.layout.specs.declared.refusal.Refusal.TheVariants.{MemoryBroken, TableUnknown, TableInItself}
use Rattle.layout.specs.Limits.{most_tables, deepest}
use Rattle.model.specs.Builder.{most}
use Rattle.layout.specs.Kind.{table_kind}
use Rattle.build_memory.specs.Memory.{table_at, item_total, table_height, item_table, item_kind, item_guest, valid, memory, Outcome, outcome}
use Rattle.build_memory.specs.Item.{stored}
use Rattle.build_tables.specs.Table.{free_standing}
use Rattle.build_values.specs.Insert.{refused, keyed, insert_below_path}

-- the height of the table that item i holds, as that table's record says, where i is an item of table t that holds one; else 0
unfoldable pub held_at : List ℕ → ℕ → ℕ → ℕ
held_at ws t i =
    pick (eqb (item_table ws i) t && (eqb (item_kind ws i) table_kind && ltb (item_guest ws i) most_tables)) (table_height ws (item_guest ws i)) 0

-- the greatest height of the tables that table t holds, or 0; the height of t is one more
unfoldable pub held_height : List ℕ → ℕ → ℕ
held_height ws t = most (held_at ws t) (item_total ws)

-- table t placed, with its height
unfoldable pub place_table : List ℕ → ℕ → ℕ → List ℕ
place_table ws t height = put_at ws (table_at t + 1) (1 ∷ height ∷ [])

-- the guest is placed where its insert is accepted
unfoldable pub when_accepted : Inserted → List ℕ → List ℕ → List ℕ
when_accepted (Ok _) accepted refused = accepted
when_accepted (Err why) accepted refused = refused

unfoldable pub settled : ℕ → ℕ → Outcome Inserted → Outcome Inserted
settled guest height o =
    outcome o.answer (memory (when_accepted o.answer (place_table o.after.words guest height) o.after.words) o.after.arena)

-- 26 where the receiver would pass the greatest height
unfoldable pub nested : List ℕ → List ℕ → ℕ → List ℕ → ℕ → Outcome Inserted
nested ws ar t key guest =
    settled guest (held_height ws guest + 1)
    (insert_below_path ws ar t key (stored table_kind [] guest) (ltb deepest (held_height ws guest + 1 + 1)))

unfoldable pub nest_at_key : List ℕ → List ℕ → ℕ → List ℕ → ℕ → Outcome Inserted
nest_at_key ws ar t key guest =
    pick (free_standing ws t)
    (pick (free_standing ws guest)
    (pick (eqb t guest) (refused TableInItself ws ar) (keyed ws ar key (nested ws ar t key guest)))
    (refused TableUnknown ws ar))
    (refused TableUnknown ws ar)

unfoldable pub insert_table : List ℕ → List ℕ → ℕ → List ℕ → ℕ → Outcome Inserted
insert_table ws ar t key guest = pick (valid ws (length ar)) (nest_at_key ws ar t key guest) (refused MemoryBroken ws ar)
