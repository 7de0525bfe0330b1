-- `words::store::fill` meets its contract. The invariant: what stands from `at` to i is written, and the rest is as it was.
use mathlib.Core.Path.{◌≡◌}
use Prim.Native.Nat.{◌-◌}
use Rattle.words.specs.Store.{put_at, copies}
use Rattle.words.proofs.store.fill.Given as goal

abbrev pub invariant-loop-i : goal.invariant-loop-i
invariant-loop-i g l = l.out ≡ put_at l.initial.out l.at (copies (l.i - l.at) l.v)
