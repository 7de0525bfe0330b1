-- `say::file::read` meets its contract. The invariant: what was read lies within the room.
use Rattle.std.proofs.Common.{◌≤◌, length}
use Rattle.say.proofs.file.read.Given as goal

abbrev pub invariant-loop : goal.invariant-loop
invariant-loop g l = l.size ≤ length l.space
