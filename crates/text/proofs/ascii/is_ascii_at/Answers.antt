-- `text::ascii::is_ascii_at` meets its contract: the bits of the mask are the highest of each byte (`field_ascii`).
use mathlib.Core.Path.{ap, ◌∙◌}
use Prim.Native.Nat.{ℕ}
use lib.Dec.{eqb}
use lib.Bits.{bit_and}
use Rattle.words.proofs.FieldLaws.{bytes_below}
use Rattle.text.proofs.AsciiLaws.{highest, field_ascii}
use Rattle.text.proofs.ascii.is_ascii_at.Goals as goal

pub returns : goal.returns
unfolding highest
returns c =
    let s = c.args.s.now in
    ap (λ (n : ℕ). eqb (bit_and n 0x8080808080808080) 0) c.long_at.ensures ∙ field_ascii 8 s c.args.at (bytes_below s c.type_inv.s) c.requires
