-- `text::ascii::is_ascii_words` meets its contract: two stretches cover the text (`ascii_two`).
use mathlib.Core.Path.{ap₂, ◌∙◌}
use mathlib.Core.Bool.{◌&&◌}
use Prim.Native.Nat.{ℕ, ◌-◌}
use native.Mathlib.Omega.{arith}
use lib.ListN.{length}
use lib.Dec.{eqb}
use lib.Bits.{bit_and}
use Rattle.words.proofs.FieldLaws.{bytes_below}
use Rattle.text.proofs.AsciiLaws.{highest, ascii_two}
use Rattle.text.proofs.ascii.is_ascii_words.Goals as goal

pub returns : goal.returns
unfolding highest
returns c =
    let s = c.args.s.now in
    ap₂ (λ (x y : ℕ). eqb (bit_and x 0x80808080) 0 && eqb (bit_and y 0x80808080) 0) c.word_at.ensures c.word_at-2.ensures
    ∙ ascii_two 4 s (length s - 4) (bytes_below s c.type_inv.s) (omega arith) (omega arith)
