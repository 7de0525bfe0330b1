-- The search for an empty key, item by item.
use Rattle.std.specs.Prelude.{ℕ, Bool, ◌&&◌, ◌||◌, List, eqb}
use Rattle.layout.specs.Kind.{table_kind}
use Rattle.build_memory.specs.Memory.{key_size, item_kind, item_guest}
use Rattle.write_numbers.specs.Roster.{state_of}
use Rattle.write.specs.Write.{has_empty}

-- item i has the empty key, or holds a table with one, as deep as d goes
unfoldable pub item_empty : List ℕ → List ℕ → ℕ → ℕ → Bool
item_empty ws ar d i = eqb (key_size ws i) 0 || (eqb (item_kind ws i) table_kind && has_empty (state_of ws ar) d (item_guest ws i))
