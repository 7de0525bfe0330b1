-- `write_slots::children::put_children` meets its contract. The invariant: the child words passed have their indices, all else is as it was.
use Prim.Native.Nat.{ℕ, ◌+◌, ◌≤◌, ◌<◌}
use mathlib.Core.Path.{◌≡◌}
use lib.ListN.{get_or}
use Rattle.write_parts.specs.Numbered.{children_from}
use Rattle.write_numbers.specs.Roster.{item_index}
use Rattle.write_slots.specs.NumberedAs.{from_last}
use Rattle.write_slots.proofs.children.put_children.Given as goal

abbrev pub invariant-loop-j : goal.invariant-loop-j
invariant-loop-j l = record {
  is : (q : ℕ) → q < l.j → get_or l.numbered (children_from + q) 0 ≡ item_index l.roster (from_last l.words (get_or l.order q 0));
  kept : (k : ℕ) → k < children_from → get_or l.numbered k 0 ≡ get_or l.initial.numbered k 0;
  rest : (k : ℕ) → children_from + l.j ≤ k → get_or l.numbered k 0 ≡ get_or l.initial.numbered k 0;
}
