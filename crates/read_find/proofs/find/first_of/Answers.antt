-- `read_find::find::first_of` meets its contract: the test is that of an item.
use Rattle.std.proofs.Common.{rules}
use Rattle.read_find.specs.Find.{first_of, item_matches, manner_of}
use Rattle.read_find.proofs.find.first_of.Goals as goal

pub returns : goal.returns
unfolding first_of
returns c = c.first_in.ensures (item_matches (manner_of c.args.manner) c.args.file.now c.args.table c.args.key.now) (λ at below told post. search rules)
