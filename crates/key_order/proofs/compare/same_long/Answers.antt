-- `key_order::compare::same_long` meets its contract. The invariant: the texts are equal over i strides.
use mathlib.Core.Path.{sym, ◌∙◌}
use Prim.Native.Nat.{◌-◌, ◌*◌}
use native.Mathlib.Omega.{arith}
use lib.ListN.{length}
use Rattle.words.proofs.FieldLaws.{bytes_below}
use Rattle.key_order.proofs.CompareLaws.{same_little_endian, same_stride, same_last}
use Rattle.key_order.proofs.compare.same_long.Goals as goal

pub returns-then-long_at : goal.returns-then-long_at
returns-then-long_at c =
    sym (same_little_endian 8 c.args.a.now c.args.b.now (8 * c.loop-i.i) (λ e. c.if-long_at.true (c.long_at.ensures ∙ e ∙ sym c.long_at-in-loop-i.ensures)))

pub loop-i-preserved : goal.loop-i-preserved
loop-i-preserved c =
    same_stride _ _ c.type_inv.a c.type_inv.b c.loop-i.i (omega arith) (omega arith) c.loop-i.invariant c.long_at.ensures c.long_at-in-loop-i.ensures c.if-long_at.false

pub returns : goal.returns
returns c =
    let a = c.args.a.now in
    let b = c.args.b.now in
    rw (c.long_at-2.ensures, c.long_at-3.ensures)
    (same_last 8 a b (bytes_below a c.type_inv.a) (bytes_below b c.type_inv.b) (8 * c.loop-i.i) (length a - 8) (omega arith) c.requires.0 (omega arith) c.loop-i.invariant)
