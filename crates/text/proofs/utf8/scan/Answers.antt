-- `text::utf8::scan` meets its contract. The invariant: all before `at` is good, so the answer is `at` and what the rest gives.
use Rattle.text.specs.Utf8.{step_len}
use Rattle.text.proofs.Utf8Laws.{bad_here, step_room, good_turn, good_end}
use mathlib.Core.Path.{◌≡◌}
use mathlib.Core.List.{List}
use Prim.Native.Nat.{ℕ, ◌+◌, ◌≤◌}
use native.Mathlib.Omega.{arith}
use lib.ListN.{length, drop}
use Rattle.text.proofs.utf8.scan.Goals as goal

-- a step stays within the text
room : (s : List ℕ) (at step : ℕ) → at ≤ length s → step ≡ step_len (drop at s) → at + step ≤ length s
room s at step inside is = omega (arith, step_room s at inside, is)

pub returns-then-step-eq0 : goal.returns-then-step-eq0
returns-then-step-eq0 c =
    let s = c.args.s.now in
    let none : step_len (drop c.loop-at.at s) ≡ 0 = cc in
    omega (arith, bad_here (drop c.loop-at.at s) none)

pub overflow_add-at : goal.overflow_add-at
overflow_add-at c =
    omega (arith, room c.args.s.now c.loop-at.at _ (omega arith) c.step_len-step.ensures)

pub loop-at-preserved : goal.loop-at-preserved
loop-at-preserved c =
    let s = c.args.s.now in
    omega (arith, room c.args.s.now c.loop-at.at _ (omega arith) c.step_len-step.ensures, good_turn s c.loop-at.at c.step_len-step.result c.step_len-step.ensures c.if-step-eq0.false)

pub returns : goal.returns
returns c =
    let s = c.args.s.now in
    omega (arith, good_end s c.loop-at.at c.loop-at-test.false)
