-- `build_values::insert::make_containers` meets its contract. The invariant: the containers from the start are the containers from here, the counts grow as the
-- ends are passed, and the hash is that of the key up to here.
use Rattle.build_values.specs.Insert.{containers}
use Rattle.build_values.specs.Walk.{sum}
use Rattle.build_memory.specs.Memory.{item_total, room_used, memory}
use Rattle.key_order.specs.Prefix.{ends_past}
use Rattle.key_hash.specs.Hash.{hash_of}
use lib.ListN.{length, take}
use Prim.Native.Nat.{◌+◌, ◌-◌, ◌≤◌}
use mathlib.Core.Path.{◌≡◌}
use Rattle.build_values.proofs.insert.make_containers.Given as goal

abbrev pub invariant-loop-table : goal.invariant-loop-table
invariant-loop-table l =
    (l.at ≤ length l.key) × (length l.words ≡ length l.initial.words) × (length l.arena ≡ length l.initial.arena)
    × (item_total l.words + length (ends_past l.sep l.key l.at) ≡ item_total l.initial.words + length (ends_past l.sep l.key l.initial.at))
    × (room_used l.words + sum (ends_past l.sep l.key l.at) ≡ room_used l.initial.words + sum (ends_past l.sep l.key l.initial.at))
    × (containers l.table l.key (ends_past l.sep l.key l.initial.at) (memory l.initial.words l.initial.arena) l.initial.above ≡ containers l.table l.key (ends_past l.sep l.key l.at) (memory l.words l.arena) l.above)
    × (l.hash ≡ hash_of (take l.at l.key))

abbrev pub decreases-loop-table : goal.decreases-loop-table
decreases-loop-table l = length l.key - l.at
