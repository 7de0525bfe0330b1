-- `check_hash::tally::joined_key` meets its contract: the invariant is `Tallying`, with the steps left.
use mathlib.Core.Path.{refl}
use Rattle.std.specs.Prelude.{Ok}
use Rattle.std.proofs.Common.{◌≡◌, ℕ, ◌+◌, ◌-◌, ◌<◌, List, sym, ap, ◌∙◌, arith, rules}
use native.Mathlib.Nat.{sub-zero}
use Rattle.std.specs.Result.{result_ok}
use Rattle.key_hash.specs.Hash.{rule_of}
use Rattle.read_chain.proofs.ChainLaws.{fragment_taken}
use Rattle.check_hash.specs.Tally.{prepend}
use Rattle.check_hash.proofs.KeyLaws.{step_some, step_inside, joined-start, joined_over, joined-refused, joined_root, joined_up}
use Rattle.check_hash.proofs.tally.joined_key.Goals as goal

pub loop-init : goal.loop-init
loop-init c = rw (sub-zero c.args.table.count) (joined-start _ _ _ _ (search rules))

pub returns-in_err-step : goal.returns-in_err-step
returns-in_err-step c =
    let told = joined-refused _ _ _ _ c.loop.invariant (omega arith) c.item_at-item.ensures (c.ok.ensures.value ∙ ap result_ok c.climb.ensures) c.in_err-step.was in
    simp (sym told) (search rules)

pub slice_bounds-prepend_all-end : goal.slice_bounds-prepend_all-end
slice_bounds-prepend_all-end c =
    let step = sym c.climb.ensures ∙ step_some _ c.ok.ensures.value c.in_ok-step.was in
    omega (arith, step_inside _ _ _ step)

pub returns-in_default : goal.returns-in_default
returns-in_default c =
    let step = sym c.climb.ensures ∙ step_some _ c.ok.ensures.value c.in_ok-step.was ∙ ap Ok c.in_default.is in
    let fragment = fragment_taken _ _ refl refl in
    let tally = c.prepend_all-tally.ensures ∙ ap (λ (l : List ℕ). prepend (rule_of c.args.form) l c.loop.tally) fragment in
    joined_root _ _ _ _ c.loop.invariant (omega arith) c.item_at-item.ensures refl tally step c.finished.ensures

pub loop-preserved : goal.loop-preserved
loop-preserved c =
    let left : c.args.table.count - c.loop.counter - 1 ≡ c.args.table.count - (c.loop.counter + 1) = omega arith in
    let more : 0 < c.args.table.count - c.loop.counter = omega arith in
    let step = sym c.climb.ensures ∙ step_some _ c.ok.ensures.value c.in_ok-step.was ∙ ap Ok c.in-Some.is in
    let fragment = fragment_taken _ _ refl refl in
    let tally = c.prepend_all-tally.ensures ∙ ap (λ (l : List ℕ). prepend (rule_of c.args.form) l c.loop.tally) fragment in
    rw (← left) (joined_up _ _ _ _ c.loop.invariant more c.item_at-item.ensures refl tally (search rules) step)

pub returns : goal.returns
returns c = joined_over _ _ _ _ c.loop.invariant (omega arith)
