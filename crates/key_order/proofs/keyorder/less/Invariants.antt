-- `key_order::keyorder::less` meets its contract. The invariant: the order of the texts is that of what is left of both.
use mathlib.Core.Path.{◌≡◌}
use lib.ListN.{drop}
use Rattle.key_order.specs.Order.{precedes}
use Rattle.key_order.proofs.keyorder.less.Given as goal

abbrev pub invariant-loop-i : goal.invariant-loop-i
invariant-loop-i l = precedes l.a l.b ≡ precedes (drop l.i l.a) (drop l.i l.b)
