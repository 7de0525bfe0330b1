-- `key_order::compare::same_few` meets its contract: two halves, no byte or one.
use mathlib.Core.Path.{sym}
use native.Mathlib.Omega.{arith}
use Rattle.key_order.proofs.CompareLaws.{same_none, same_one}
use Rattle.key_order.proofs.compare.same_few.Goals as goal

pub returns-then-a-eq0 : goal.returns-then-a-eq0
returns-then-a-eq0 c = sym (same_none c.args.a.now c.args.b.now c.requires.0 c.if-a-eq0.true)

pub returns : goal.returns
returns c = same_one c.args.a.now c.args.b.now c.requires.0 (omega arith)
