-- `words::bits::put_bit` meets its contract: the shift is exact.
use mathlib.Core.Path.{◌≡◌, ap, ◌∙◌}
use Prim.Native.Nat.{◌*◌, ◌%◌, ◌^◌}
use native.Mathlib.Omega.{arith}
use native.Mathlib.Nat.{one-mul}
use lib.Bits.{bit_or}
use lib.Pow.{shl_exact}
use Rattle.words.specs.Bits.{bit_put}
use Rattle.words.proofs.bits.put_bit.Goals as goal

pub returns : goal.returns
unfolding bit_put
returns c =
    let b = c.args.bit % 32 in
    let exact : 1 * 2 ^ b % 2 ^ 32 ≡ 2 ^ b = shl_exact 1 b 32 (omega arith) (omega arith) ∙ one-mul (2 ^ b) in
    ap (bit_or c.args.word) exact
