-- `text::utf8::starts_three` meets its contract: the same tests, each by its callee's contract.
use Rattle.text.specs.Utf8.{starts_three}
use Rattle.text.proofs.utf8.starts_three.Goals as goal

pub returns : goal.returns
unfolding starts_three
returns c = cc
