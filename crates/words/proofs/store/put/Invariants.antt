-- `words::store::put` meets its contract. The invariant: the first j elements are copied, and the rest is as it was.
use mathlib.Core.Path.{◌≡◌}
use lib.ListN.{take}
use Rattle.words.specs.Store.{put_at}
use Rattle.words.proofs.store.put.Given as goal

abbrev pub invariant-loop-j : goal.invariant-loop-j
invariant-loop-j g l = l.out ≡ put_at l.initial.out l.at (take l.j l.src)
