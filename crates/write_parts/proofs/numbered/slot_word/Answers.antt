-- `write_parts::numbered::slot_word` meets its contract: it reads the word that the definition names.
use borrow.Author.Rules.{rules}
use Rattle.write_parts.specs.Numbered.{slot_word}
use Rattle.write_parts.proofs.numbered.slot_word.Goals as goal

pub returns : goal.returns
unfolding slot_word
returns c = search rules
