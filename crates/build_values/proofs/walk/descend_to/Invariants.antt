-- `build_values::walk::descend_to` meets its contract. The invariant: the way from the start is the way from here, and the hash is that of the key
-- up to here.
use Rattle.build_values.specs.Walk.{descend}
use Rattle.layout.specs.Limits.{most_items}
use Rattle.key_order.specs.Prefix.{ends_past}
use Rattle.key_hash.specs.Hash.{hash_of}
use lib.ListN.{length, take}
use Prim.Native.Nat.{◌-◌, ◌≤◌}
use mathlib.Core.Path.{◌≡◌}
use Rattle.build_values.proofs.walk.descend_to.Given as goal

abbrev pub invariant-loop-table : goal.invariant-loop-table
invariant-loop-table l =
    (l.from ≤ length l.key) × (l.parent ≤ most_items)
    × (descend l.words l.arena l.table l.key (ends_past l.sep l.key 0) 0 0 ≡ descend l.words l.arena l.table l.key (ends_past l.sep l.key l.from) l.from l.parent)
    × (l.hash ≡ hash_of (take l.from l.key))

abbrev pub decreases-loop-table : goal.decreases-loop-table
decreases-loop-table l = length l.key - l.from
