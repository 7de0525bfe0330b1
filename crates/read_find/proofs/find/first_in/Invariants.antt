-- `read_find::find::first_in` meets its contract: what the search has still to say from here is what it had to say from the start.
use Rattle.std.specs.Prelude.{ℕ, Bool}
use Prim.Native.Nat.{◌-◌, ◌<◌}
use mathlib.Core.Path.{◌≡◌}
use Rattle.read_find.specs.Find.{first_from}
use Rattle.read_find.proofs.find.first_in.Given as goal

abbrev pub invariant-loop-at : goal.invariant-loop-at
invariant-loop-at g l =
    (test : ℕ → Bool) → ((at : ℕ) → at < l.count → (told : Bool) → goal.F-post g l.matches at told → told ≡ test at)
    → first_from test l.count (l.fn.run.last - l.at) l.at ≡ first_from test l.count (l.fn.run.last - l.fn.run.first) l.fn.run.first
