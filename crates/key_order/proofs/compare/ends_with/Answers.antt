-- `key_order::compare::ends_with` meets its contract, by `same_bytes`'s on the part.
use mathlib.Core.Path.{sym, ◌∙◌}
use native.Mathlib.Omega.{arith}
use Rattle.key_order.proofs.CompareLaws.{ends_short, ends_long}
use Rattle.key_order.proofs.compare.ends_with.Goals as goal

pub returns-then-n-size : goal.returns-then-n-size
returns-then-n-size c =
    let args = c.args in
    sym (ends_short args.key.now args.n args.frag.now c.if-n-size.true)

pub returns : goal.returns
returns c =
    let args = c.args in
    c.same_bytes.ensures ∙ sym (ends_long args.key.now args.n args.frag.now (omega arith))
