-- `words::field::put_word` meets its contract: the library spells the bytes that are stored (`spelled_word`).
use mathlib.Core.Path.{ap, ◌∙◌}
use Rattle.words.specs.Store.{put_at}
use Rattle.words.proofs.FieldLaws.{spelled_word}
use Rattle.words.proofs.field.put_word.Goals as goal

pub returns : goal.returns
returns c = c.put.ensures ∙ ap (put_at c.args.out.now c.args.at) (c.to_le_bytes.ensures ∙ spelled_word c.args.w)
