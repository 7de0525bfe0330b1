-- `text::utf8::starts_four` meets its contract: the same tests, each by its callee's contract.
use Rattle.text.specs.Utf8.{starts_four}
use Rattle.text.proofs.utf8.starts_four.Goals as goal

pub returns : goal.returns
unfolding starts_four
returns c = cc
