-- `build_memory::find::find_hashed` meets its contract. The invariant: the search from the start is the search from here.
use Rattle.build_memory.proofs.FindLaws.{chain_from}
use Rattle.build_memory.specs.Find.{find_key}
use Rattle.build_memory.specs.Memory.{item_total}
use Prim.Native.Nat.{◌≤◌}
use mathlib.Core.Path.{◌≡◌}
use Rattle.build_memory.proofs.find.find_hashed.Given as goal

abbrev pub invariant-loop-i : goal.invariant-loop-i
invariant-loop-i l =
    (l.limit ≤ item_total l.words) × (find_key l.words l.arena l.table l.key ≡ chain_from l.words l.arena l.table l.key l.limit l.i)

abbrev pub decreases-loop-i : goal.decreases-loop-i
decreases-loop-i l = l.limit
