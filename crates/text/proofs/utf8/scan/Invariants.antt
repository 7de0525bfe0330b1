-- `text::utf8::scan` meets its contract. The invariant: all before `at` is good, so the answer is `at` and what the rest gives.
use mathlib.Core.Path.{◌≡◌}
use Prim.Native.Nat.{◌+◌, ◌-◌, ◌≤◌}
use lib.ListN.{length, drop}
use Rattle.text.specs.Utf8.{first_bad}
use Rattle.text.proofs.utf8.scan.Given as goal

abbrev pub invariant-loop-at : goal.invariant-loop-at
invariant-loop-at l =
    (l.at ≤ length l.s) × (first_bad l.s ≡ l.at + first_bad (drop l.at l.s))

abbrev pub decreases-loop-at : goal.decreases-loop-at
decreases-loop-at l = length l.s - l.at
