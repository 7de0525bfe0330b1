-- The cycle of `write::empty::has_empty` and `write::empty::item_empty` meets both contracts. The measure is twice the depth left, and one
-- more for an item. The invariant of the loop: the table's slots are slots that there are, and no item passed has an empty key.
use Rattle.std.proofs.Common.{◌-◌, ◌≡◌, ◌+◌, ◌≤◌, false}
use Rattle.key_hash.specs.Hash.{rule_of}
use Rattle.layout.specs.Limits.{most_items}
use Rattle.write.proofs.EmptyLaws.{found_below_lem}
use Rattle.write.proofs.empty.+has_empty_item_empty.Given as goal

abbrev pub decreases-has_empty : goal.decreases-has_empty
decreases-has_empty l = l.depth + l.depth

abbrev pub decreases-item_empty : goal.decreases-item_empty
decreases-item_empty l = l.depth + l.depth + 1

abbrev pub invariant-has_empty-loop-k : goal.invariant-has_empty-loop-k
invariant-has_empty-loop-k l = record {
  few : l.first + l.count ≤ most_items;
  none : found_below_lem (rule_of l.form) l.words l.arena l.table (l.depth - 1) l.k ≡ false;
}
