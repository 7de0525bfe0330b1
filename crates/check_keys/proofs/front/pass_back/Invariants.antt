-- `check_keys::front::pass_back` meets its contract: the invariant is `Passing`, and the measure is the steps and the bytes left.
use Prim.Native.Nat.{◌+◌}
use Rattle.check_keys.proofs.PassLaws.{Passing}
use Rattle.check_keys.proofs.front.pass_back.Given as goal

abbrev pub invariant-loop-end : goal.invariant-loop-end
invariant-loop-end l =
    Passing l.file l.table l.initial.here l.from l.to l.here l.end

abbrev pub decreases-loop-end : goal.decreases-loop-end
decreases-loop-end l = l.here.left + l.here.size
