-- `read_find::find::first_in` meets its contract, turn by turn: `is` says that the closure computes the test.
use Rattle.read_find.proofs.FindLaws.{first_past, first_hit, first_on, first_over}
use Rattle.read_find.proofs.find.first_in.Goals as goal

pub returns-then-count-at : goal.returns-then-count-at
returns-then-count-at g c test is = first_past _ _ _ _ (c.loop-at.invariant test is) c.loop-at-test.true c.if-count-at.true

pub returns-then-matches : goal.returns-then-matches
returns-then-matches g c test is =
    first_hit _ _ _ _ (c.loop-at.invariant test is) c.loop-at-test.true c.if-count-at.false (is _ c.if-count-at.false _ c.matches.ensures) c.if-matches.true

pub loop-at-preserved : goal.loop-at-preserved
loop-at-preserved g c test is =
    first_on _ _ _ _ (c.loop-at.invariant test is) c.loop-at-test.true c.if-count-at.false (is _ c.if-count-at.false _ c.matches.ensures) c.if-matches.false

pub returns : goal.returns
returns g c test is = first_over _ _ _ _ (c.loop-at.invariant test is) c.loop-at-test.false
