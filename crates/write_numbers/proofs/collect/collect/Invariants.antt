-- `write_numbers::collect::collect` meets its contract. The invariant: the items of the table among the first i are stored.
use mathlib.Core.Path.{◌≡◌}
use Prim.Native.Nat.{◌≤◌}
use lib.ListN.{length}
use Rattle.words.specs.Store.{put_at}
use Rattle.write_numbers.specs.Fill.{of_table}
use Rattle.write_numbers.proofs.collect.collect.Given as goal

abbrev pub invariant-loop-i : goal.invariant-loop-i
invariant-loop-i l = record {
  count : l.n ≡ length (of_table l.words l.t l.i);
  few : l.n ≤ l.i;
  put : l.out ≡ put_at l.initial.out 0 (of_table l.words l.t l.i);
}
