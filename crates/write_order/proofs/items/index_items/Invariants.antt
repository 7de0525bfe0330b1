-- `write_order::items::index_items` meets its contract. The invariant: the indices of the first k items are stored.
use mathlib.Core.Path.{◌≡◌}
use Rattle.write_order.specs.Items.{indices_put}
use Rattle.write_order.proofs.items.index_items.Given as goal

abbrev pub invariant-loop-k : goal.invariant-loop-k
invariant-loop-k l = l.indices ≡ indices_put l.initial.indices l.items l.k
