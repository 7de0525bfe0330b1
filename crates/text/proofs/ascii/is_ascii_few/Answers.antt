-- `text::ascii::is_ascii_few` meets its contract. The invariant: the text is ASCII just where what is left of it is.
use mathlib.Core.Path.{sym, ◌∙◌}
use native.Mathlib.Omega.{arith}
use Rattle.text.proofs.AsciiLaws.{byte_high, byte_low, bytes_end}
use Rattle.text.proofs.ascii.is_ascii_few.Goals as goal

pub returns-then-b-gt127 : goal.returns-then-b-gt127
returns-then-b-gt127 c = sym (c.loop-b.invariant ∙ byte_high c.args.s.now c.loop-b.b-index c.loop-b-test.true c.if-b-gt127.true)

pub loop-b-preserved : goal.loop-b-preserved
loop-b-preserved c = c.loop-b.invariant ∙ byte_low c.args.s.now c.loop-b.b-index c.loop-b-test.true c.if-b-gt127.false

pub returns : goal.returns
returns c = sym (c.loop-b.invariant ∙ bytes_end c.args.s.now c.loop-b.b-index (omega arith))
