-- `end` grows, and stays in the key.
use Rattle.std.proofs.Common.{◌-◌, ◌≤◌, length}
use Rattle.worked.proofs.small.walk.Given as goal

abbrev pub invariant-loop : goal.invariant-loop
invariant-loop g l = l.end ≤ length l.key

abbrev pub decreases-loop : goal.decreases-loop
decreases-loop g l = length l.key - l.end
