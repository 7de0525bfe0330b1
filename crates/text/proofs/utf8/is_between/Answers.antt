-- `text::utf8::is_between` meets its contract: the tests are the definition's.
use mathlib.Core.Path.{refl}
use Rattle.text.specs.Utf8.{between}
use Rattle.text.proofs.utf8.is_between.Goals as goal

pub returns : goal.returns
unfolding between
returns c = refl
