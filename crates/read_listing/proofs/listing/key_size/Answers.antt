-- `read_listing::listing::key_size` meets its contract: the invariant is `Measuring`, with the steps left.
use Rattle.std.specs.Prelude.{◌≡◌, ◌+◌, ◌-◌, Ok}
use Rattle.std.proofs.Common.{arith}
use mathlib.Core.Path.{sym, ◌∙◌, ap, subst, refl}
use native.Mathlib.Nat.{sub-zero}
use borrow.Author.Rules.{rules}
use Rattle.read_listing.proofs.MeasureLaws.{Measuring, measure-start, measure-refused, measure_up}
use Rattle.read_listing.proofs.listing.key_size.Goals as goal

pub loop-init : goal.loop-init
loop-init c = rw (sub-zero c.args.table.count) (measure-start _ _ _ (search rules))

pub returns-in_err-parent : goal.returns-in_err-parent
returns-in_err-parent c =
    simp (sym (measure-refused _ _ _ c.loop.invariant (omega arith) c.item_at-item.ensures (sym c.climb.ensures ∙ c.in_err-parent.was))) (search rules)

pub loop-preserved : goal.loop-preserved
loop-preserved c =
    let step = sym c.climb.ensures ∙ c.in_ok-parent.was ∙ ap Ok c.in-Some.is in
    let left : c.args.table.count - c.loop.counter - 1 ≡ c.args.table.count - (c.loop.counter + 1) = omega arith in
    subst (Measuring _ _ _ _ _) left (measure_up _ _ _ c.loop.invariant (omega arith) c.item_at-item.ensures refl (search rules) step)
