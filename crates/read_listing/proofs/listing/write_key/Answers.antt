-- `read_listing::listing::write_key` meets its contract: the invariant is `Writing`, with the steps left.
use Rattle.std.specs.Prelude.{◌≡◌, ◌+◌, ◌-◌, Ok}
use Rattle.std.proofs.Common.{arith}
use mathlib.Core.Path.{sym, subst, ◌∙◌, ap, refl}
use Rattle.read_listing.proofs.WriteLaws.{Writing, write_inside, write_fits, write-refused, write_up}
use Rattle.read_listing.proofs.listing.write_key.Goals as goal

pub overflow_sub-end : goal.overflow_sub-end
overflow_sub-end c =
    write_fits _ _ _ _ c.loop.invariant (omega arith) c.item_at-item.ensures refl refl

pub slice_bounds-put-end : goal.slice_bounds-put-end
slice_bounds-put-end c =
    write_inside _ _ _ _ c.loop.invariant (omega arith) c.item_at-item.ensures refl refl

pub returns-in-Err : goal.returns-in-Err
returns-in-Err c =
    c.put.ensures
    ∙ write-refused _ _ _ _ c.loop.invariant (omega arith) c.item_at-item.ensures refl refl (sym c.parent_of.ensures ∙ c.in-Err.is)

pub loop-preserved : goal.loop-preserved
loop-preserved c =
    let step = sym c.parent_of.ensures ∙ c.in-Ok-Some.is ∙ ap Ok c.in-Ok-Some.field-0-is in
    let left : c.args.table.count - c.loop.counter - 1 ≡ c.args.table.count - (c.loop.counter + 1) = omega arith in
    rw (← left) (subst (Writing _ _ _ _ _ _ _) (sym c.put.ensures) (write_up _ _ _ _ c.loop.invariant (omega arith) c.item_at-item.ensures refl refl step))
