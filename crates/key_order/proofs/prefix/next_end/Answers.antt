-- `key_order::prefix::next_end` meets its contract. The invariant: no separator stands from `from` up to i.
use Rattle.key_order.proofs.PrefixLaws.{next_here, next_later, next_end_lem}
use native.Mathlib.Omega.{arith}
use lib.ListN.{length}
use mathlib.Core.Path.{◌≡◌, sym, ◌∙◌}
use Rattle.key_order.proofs.prefix.next_end.Goals as goal

pub returns-then-key-i-clause-value : goal.returns-then-key-i-clause-value
returns-then-key-i-clause-value c =
    let l = c.loop-i in
    next_here c.args.sep c.args.key.now l.i c.loop-i-test.true c.if-key-i.true ∙ sym l.invariant

pub loop-i-preserved : goal.loop-i-preserved
loop-i-preserved c =
    let l = c.loop-i in
    l.invariant ∙ next_later c.args.sep c.args.key.now l.i c.loop-i-test.true c.if-key-i.false

pub returns-clause-value : goal.returns-clause-value
returns-clause-value c =
    let l = c.loop-i in
    let last : length c.args.key.now ≡ l.i = omega arith in
    last ∙ next_end_lem c.args.sep c.args.key.now l.i (omega arith) ∙ sym l.invariant
