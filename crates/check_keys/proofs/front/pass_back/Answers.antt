-- `check_keys::front::pass_back` meets its contract: a turn passes over bytes of the stretch, or moves up.
use mathlib.Core.Path.{subst}
use Rattle.check_keys.specs.Front.{StretchPassed}
use Rattle.check_keys.proofs.PassLaws.{pass_less, pass_turn}
use Rattle.check_keys.proofs.front.pass_back.Goals as goal

pub overflow_sub-end : goal.overflow_sub-end
overflow_sub-end c =
    (pass_less _ _ _ _ _ c.loop-end.invariant _ (subst (StretchPassed _ _ _ _ _) c.in_ok-next.was c.pass_some.ensures)).0

pub loop-end-smaller : goal.loop-end-smaller
loop-end-smaller c =
    (pass_less _ _ _ _ _ c.loop-end.invariant _ (subst (StretchPassed _ _ _ _ _) c.in_ok-next.was c.pass_some.ensures)).2

pub loop-end-preserved : goal.loop-end-preserved
loop-end-preserved c =
    pass_turn _ _ _ _ _ c.loop-end.invariant (subst (StretchPassed _ _ _ _ _) c.in_ok-next.was c.pass_some.ensures)
