-- The cycle of `write_bytes::table::lay_table` and `write_bytes::table::lay_item` meets both contracts. The measure is twice the depth left, and one more for an item.
-- The invariant of the loop: the words read are the table's, and the records, fragments and values of the first k items are laid.
use Rattle.std.proofs.Common.{◌+◌}
use Rattle.write_bytes.proofs.TableLaws.{Half}
use Rattle.write_bytes.proofs.TurnLaws.{AtTable, plan_at, base_at}
use Rattle.write_bytes.proofs.table.+lay_item_lay_table.Given as goal

abbrev pub decreases-lay_item : goal.decreases-lay_item
decreases-lay_item l = l.depth + l.depth + 1

abbrev pub decreases-lay_table : goal.decreases-lay_table
decreases-lay_table l = l.depth + l.depth

abbrev pub invariant-lay_table-loop-k : goal.invariant-lay_table-loop-k
invariant-lay_table-loop-k l = record {
  table : AtTable l.filter l.numbered l.arena l.table l.at l.depth l.first l.count;
  half : Half (plan_at l.filter l.numbered l.arena l.depth l.table) l.initial.image l.image l.records (base_at l.filter l.numbered l.arena l.depth l.table l.at) l.k l.end;
}
