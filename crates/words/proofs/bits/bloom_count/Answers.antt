-- `words::bits::bloom_count` meets its contract: a mask of low bits is a remainder.
use lib.Bits.{and_mask}
use Rattle.words.specs.Bits.{bloom_count}
use Rattle.words.proofs.bits.bloom_count.Goals as goal

pub returns : goal.returns
unfolding bloom_count
returns c = and_mask c.args.first 27
