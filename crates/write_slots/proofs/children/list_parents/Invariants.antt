-- `write_slots::children::list_parents` meets its contract. The invariant: the ranks passed have the parent words of their items.
use Prim.Native.Nat.{ℕ, ◌<◌}
use mathlib.Core.Path.{◌≡◌}
use lib.ListN.{get_or}
use Rattle.build_memory.specs.Memory.{item_parent}
use Rattle.write_slots.specs.NumberedAs.{from_last}
use Rattle.write_slots.proofs.children.list_parents.Given as goal

abbrev pub invariant-loop-p : goal.invariant-loop-p
invariant-loop-p l = (q : ℕ) → q < l.p → get_or l.hashes q 0 ≡ item_parent l.words (from_last l.words q)
