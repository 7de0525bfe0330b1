-- `text::ascii::is_ascii_long` meets its contract. The invariant: the text is ASCII over i strides.
use mathlib.Core.Path.{◌≡◌, sym, ◌∙◌}
use Prim.Native.Nat.{◌+◌, ◌-◌, ◌*◌}
use native.Mathlib.Omega.{arith}
use lib.ListN.{length}
use Rattle.text.proofs.AsciiLaws.{ascii_stop, ascii_turn, ascii_last, ascii_none}
use Rattle.text.proofs.ascii.is_ascii_long.Goals as goal

pub loop-i-init : goal.loop-i-init
loop-i-init c = ascii_none c.args.s.now 0

pub returns-then-not-is_ascii_at : goal.returns-then-not-is_ascii_at
returns-then-not-is_ascii_at c = sym (ascii_stop c.args.s.now (8 * c.loop-i.i) 8 (sym c.is_ascii_at.ensures ∙ c.if-not-is_ascii_at.true))

pub loop-i-preserved : goal.loop-i-preserved
loop-i-preserved c =
    let i = c.loop-i.i in
    let next : 8 * i + 8 ≡ 8 * (i + 1) = omega arith in
    rw next at (ascii_turn c.args.s.now (8 * i) 8 c.loop-i.invariant (sym c.is_ascii_at.ensures ∙ c.if-not-is_ascii_at.false))

pub returns : goal.returns
returns c =
    let s = c.args.s.now in
    c.is_ascii_at-2.ensures ∙ ascii_last s (8 * c.loop-i.i) (length s - 8) 8 (omega arith) (omega arith) c.loop-i.invariant
