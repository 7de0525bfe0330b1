-- `write_parts::numbered::slot_count` meets its contract: it reads the word that the definition names.
use borrow.Author.Rules.{rules}
use Rattle.write_parts.specs.Numbered.{slot_count}
use Rattle.write_parts.proofs.numbered.slot_count.Goals as goal

pub returns : goal.returns
unfolding slot_count
returns c = search rules
