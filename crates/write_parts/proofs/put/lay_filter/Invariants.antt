-- `write_parts::put::lay_filter` meets its contract. The invariant: the filter over the first k items is laid, and the rest is as it was.
use mathlib.Core.Path.{◌≡◌}
use Rattle.words.specs.Store.{put_at}
use Rattle.write_parts.specs.Slot.{slot_filter}
use Rattle.write_parts.proofs.put.lay_filter.Given as goal

abbrev pub invariant-loop-k : goal.invariant-loop-k
invariant-loop-k l = l.image ≡ put_at l.initial.image l.at (slot_filter l.numbered l.filter l.first l.k)
