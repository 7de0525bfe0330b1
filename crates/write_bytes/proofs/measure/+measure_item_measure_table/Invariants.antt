-- The cycle of `write_bytes::measure::measure_table` and `write_bytes::measure::measure_item` meets both contracts. The measure is twice the depth left, and one
-- more for an item. The invariant of the loop: the words read are the table's, and `end` is where item k starts, and within bounds.
use Rattle.std.proofs.Common.{◌≡◌, ◌+◌, ◌≤◌}
use Rattle.layout.specs.Limits.{longest_file}
use Rattle.image.specs.Plan.{place}
use Rattle.write_bytes.proofs.TurnLaws.{AtTable, plan_at, base_at}
use Rattle.write_bytes.proofs.measure.+measure_item_measure_table.Given as goal

abbrev pub decreases-measure_item : goal.decreases-measure_item
decreases-measure_item l = l.depth + l.depth + 1

abbrev pub decreases-measure_table : goal.decreases-measure_table
decreases-measure_table l = l.depth + l.depth

abbrev pub invariant-measure_table-loop-k : goal.invariant-measure_table-loop-k
invariant-measure_table-loop-k l = record {
  table : AtTable l.filter l.numbered l.arena l.table l.at l.depth l.first l.count;
  short : l.end ≤ longest_file;
  end_is : l.end ≡ place (plan_at l.filter l.numbered l.arena l.depth l.table) (base_at l.filter l.numbered l.arena l.depth l.table l.at) l.k;
}
