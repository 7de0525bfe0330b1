-- `write_parts::put::lay_front` meets its contract.
use native.Mathlib.Omega.{arith}
use Rattle.write_parts.proofs.PutLaws.{bucket_is, front_laid}
use Rattle.write_parts.proofs.put.lay_front.Goals as goal

pub lay_words-requires-clause-by_index : goal.lay_words-requires-clause-by_index
lay_words-requires-clause-by_index c = λ b less. (omega (arith, c.requires.numbered_len), omega (arith, bucket_is c.args.numbered.now c.args.first b, (c.requires.by_index b less).1))

pub returns : goal.returns
returns c = front_laid _ _ _ _ _ _ c.lay_head.ensures c.lay_filter.ensures c.lay_words.ensures
