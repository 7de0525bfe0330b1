-- `write_parts::put::lay_words` meets its contract. The invariant: the first b words are laid, and the rest is as it was.
use mathlib.Core.Path.{refl}
use native.Mathlib.Omega.{arith}
use Rattle.write_parts.proofs.PutLaws.{words_start, words_turn, words_laid}
use Rattle.write_parts.proofs.put.lay_words.Goals as goal

pub loop-b-init : goal.loop-b-init
loop-b-init c = words_start c.args.image.now c.args.at _

pub loop-b-preserved : goal.loop-b-preserved
loop-b-preserved c = words_turn c.args.image.now c.args.at _ c.loop-b.b c.loop-b.invariant refl c.put_word.ensures

pub returns : goal.returns
returns c = words_laid c.args.image.now c.args.at _ c.args.count c.loop-b.b (omega arith) c.loop-b.invariant
