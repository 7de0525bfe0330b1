-- `text::utf8::starts_whole` meets its contract: the first byte, or 0, is no tail byte.
use mathlib.Core.Path.{ap, ◌∙◌}
use mathlib.Core.Bool.{not}
use Rattle.text.specs.Utf8.{tail, starts_whole}
use Rattle.text.proofs.utf8.starts_whole.Goals as goal

pub returns : goal.returns
unfolding starts_whole
returns c = ap not (c.is_tail.ensures ∙ ap tail c.byte_or_zero.ensures)
