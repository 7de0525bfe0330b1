-- `words::bits::bit_set` meets its contract: the lowest bit of the shifted word.
use mathlib.Core.Path.{ap}
use Prim.Native.Nat.{ℕ, ◌/◌, ◌%◌, ◌^◌}
use lib.Dec.{eqb}
use lib.Bits.{and_mask}
use Rattle.words.specs.Bits.{bit_set}
use Rattle.words.proofs.bits.bit_set.Goals as goal

pub returns : goal.returns
unfolding bit_set
returns c = ap (λ (n : ℕ). eqb n 1) (and_mask (c.args.word / 2 ^ (c.args.bit % 32)) 1)
