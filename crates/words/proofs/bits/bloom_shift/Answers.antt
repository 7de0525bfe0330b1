-- `words::bits::bloom_shift` meets its contract: a shift to the right is a quotient.
use mathlib.Core.Path.{refl}
use Rattle.words.specs.Bits.{bloom_shift}
use Rattle.words.proofs.bits.bloom_shift.Goals as goal

pub returns : goal.returns
unfolding bloom_shift
returns c = refl
