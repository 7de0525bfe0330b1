-- `build_values::walk::cost_of` meets its contract. The invariant: what is counted and what is left make the whole.
use Rattle.build_values.specs.Walk.{sum}
use Rattle.layout.specs.Limits.{longest_key}
use Rattle.key_order.specs.Prefix.{ends_past}
use lib.ListN.{length}
use Prim.Native.Nat.{◌+◌, ◌*◌, ◌-◌, ◌≤◌}
use mathlib.Core.Path.{◌≡◌}
use Rattle.build_values.proofs.walk.cost_of.Given as goal

abbrev pub invariant-loop-from : goal.invariant-loop-from
invariant-loop-from l =
    (l.at ≤ length l.key) × (l.items ≤ l.at) × (l.room ≤ longest_key * l.at) × (length (ends_past l.sep l.key l.from) ≡ l.items + length (ends_past l.sep l.key l.at))
    × (sum (ends_past l.sep l.key l.from) ≡ l.room + sum (ends_past l.sep l.key l.at))

abbrev pub decreases-loop-from : goal.decreases-loop-from
decreases-loop-from l = length l.key - l.at
