-- `text::utf8::is_tail` meets its contract, by `is_between`'s.
use Rattle.text.specs.Utf8.{tail}
use Rattle.text.proofs.utf8.is_tail.Goals as goal

pub returns : goal.returns
unfolding tail
returns c = c.is_between.ensures
