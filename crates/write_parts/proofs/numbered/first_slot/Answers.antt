-- `write_parts::numbered::first_slot` meets its contract: it reads the word that the definition names.
use borrow.Author.Rules.{rules}
use Rattle.write_parts.specs.Numbered.{first_slot}
use Rattle.write_parts.proofs.numbered.first_slot.Goals as goal

pub returns : goal.returns
unfolding first_slot
returns c = search rules
