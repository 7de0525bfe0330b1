-- `key_order::keyorder::less` meets its contract. The invariant: the order of the texts is that of what is left of both.
use mathlib.Core.Path.{sym, ◌∙◌}
use native.Mathlib.Omega.{arith}
use Rattle.key_order.proofs.OrderLaws.{front_same, turn_other, turn_same, ended}
use Rattle.key_order.proofs.keyorder.less.Goals as goal

pub loop-i-init : goal.loop-i-init
loop-i-init c =
    let front = c.same_front-front.ensures in
    front_same _ _ _ front.0 front.1 front.2

pub returns-then-a-i : goal.returns-then-a-i
returns-then-a-i c = sym (c.loop-i.invariant ∙ turn_other c.args.a.now c.args.b.now c.loop-i.i (omega arith) (omega arith) c.if-a-i.true)

pub loop-i-preserved : goal.loop-i-preserved
loop-i-preserved c = c.loop-i.invariant ∙ turn_same c.args.a.now c.args.b.now c.loop-i.i (omega arith) (omega arith) c.if-a-i.false

pub returns : goal.returns
returns c =
    let args = c.args in
    sym (c.loop-i.invariant ∙ ended args.a.now args.b.now c.loop-i.i (omega arith) (omega arith) (λ h. omega arith))
