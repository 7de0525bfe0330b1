-- `build_tables::count::count_of` meets its contract. The invariant: the count is that of the items passed.
use Rattle.build_tables.specs.Table.{count_of}
use Prim.Native.Nat.{◌≤◌}
use mathlib.Core.Path.{◌≡◌}
use Rattle.build_tables.proofs.count.count_of.Given as goal

abbrev pub invariant-loop-i : goal.invariant-loop-i
invariant-loop-i l = (l.count ≤ l.i) × (l.count ≡ count_of l.words l.table l.i)
