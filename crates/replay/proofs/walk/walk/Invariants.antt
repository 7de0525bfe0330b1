-- What is left is no longer than the list, and every turn leaves less.
use Rattle.std.proofs.Common.{◌≤◌, length}
use Rattle.replay.proofs.walk.walk.Given as goal

abbrev pub invariant-loop-record : goal.invariant-loop-record
invariant-loop-record l = length l.rest ≤ length l.list

abbrev pub decreases-loop-record : goal.decreases-loop-record
decreases-loop-record l = length l.rest
