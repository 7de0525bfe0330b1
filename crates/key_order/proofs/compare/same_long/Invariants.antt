-- `key_order::compare::same_long` meets its contract. The invariant: the texts are equal over i strides.
use mathlib.Core.Path.{◌≡◌}
use Prim.Native.Nat.{◌*◌}
use lib.ListN.{take}
use Rattle.key_order.proofs.compare.same_long.Given as goal

abbrev pub invariant-loop-i : goal.invariant-loop-i
invariant-loop-i l = take (8 * l.i) l.a ≡ take (8 * l.i) l.b
