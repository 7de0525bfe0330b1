-- `words::store::put` meets its contract. The invariant: the first j elements are copied, and the rest is as it was.
use mathlib.Core.Path.{ap, ◌∙◌}
use Prim.Native.Nat.{◌+◌}
use lib.ListN.{take, set}
use Rattle.words.specs.Store.{put_at}
use Rattle.words.proofs.StoreLaws.{copy_start, copy_turn, copy_end}
use Rattle.words.proofs.store.put.Goals as goal

pub loop-j-init : goal.loop-j-init
loop-j-init g c = copy_start c.args.out.now c.args.at c.args.src.now

pub loop-j-preserved : goal.loop-j-preserved
loop-j-preserved g c =
    let a = c.args in
    rw c.loop-j.invariant (ap (set (put_at a.out.now a.at (take c.loop-j.j a.src.now)) (a.at + c.loop-j.j)) c.index-src-j.is ∙ copy_turn a.out.now a.at a.src.now c.loop-j.j _ c.loop-j-test.true)

pub returns : goal.returns
returns g c = c.loop-j.invariant ∙ copy_end _ _ _ _ c.loop-j-test.false
