-- `build_nested::height::held_height` meets its contract. The invariant: `most` is the greatest height among the items passed.
use Rattle.build_nested.specs.Nest.{held_at}
use Rattle.model.specs.Builder as builder
use mathlib.Core.Path.{◌≡◌}
use Rattle.build_nested.proofs.height.held_height.Given as goal

abbrev pub invariant-loop-i : goal.invariant-loop-i
invariant-loop-i l = l.most ≡ builder.most (held_at l.words l.table) l.i
