-- `words::field::put_half` meets its contract: the library spells the bytes that are stored (`spelled_half`).
use mathlib.Core.Path.{ap, ◌∙◌}
use Rattle.words.specs.Store.{put_at}
use Rattle.words.proofs.FieldLaws.{spelled_half}
use Rattle.words.proofs.field.put_half.Goals as goal

pub returns : goal.returns
returns c = c.put.ensures ∙ ap (put_at c.args.out.now c.args.at) (c.to_le_bytes.ensures ∙ spelled_half c.args.w)
