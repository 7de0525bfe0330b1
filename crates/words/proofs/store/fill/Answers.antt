-- `words::store::fill` meets its contract. The invariant: what stands from `at` to i is written, and the rest is as it was.
use Rattle.words.proofs.StoreLaws.{fill_start, fill_next}
use Rattle.words.proofs.store.fill.Goals as goal

pub loop-i-init : goal.loop-i-init
loop-i-init g c = fill_start _ _ _

pub loop-i-preserved : goal.loop-i-preserved
loop-i-preserved g c = rw c.loop-i.invariant (fill_next _ _ _ _ c.loop-i.auto.i)
