-- `key_order::prefix::next_end` meets its contract. The invariant: no separator stands from `from` up to i.
use Rattle.key_order.specs.Prefix.{next_end}
use mathlib.Core.Path.{◌≡◌}
use Rattle.key_order.proofs.prefix.next_end.Given as goal

abbrev pub invariant-loop-i : goal.invariant-loop-i
invariant-loop-i l = next_end l.sep l.key l.from ≡ next_end l.sep l.key l.i
