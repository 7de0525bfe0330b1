-- `key_order::keyorder::same_front` meets its contract. The invariant: the texts are equal over i strides.
use Rattle.key_order.proofs.CompareLaws.{same_stride}
use native.Mathlib.Omega.{arith}
use Rattle.key_order.proofs.keyorder.same_front.Goals as goal

pub loop-i-preserved : goal.loop-i-preserved
loop-i-preserved c =
    same_stride _ _ c.type_inv.a c.type_inv.b c.loop-i.i (omega arith) (omega arith) c.loop-i.invariant c.long_at.ensures c.long_at-in-loop-i.ensures c.if-long_at.false
