-- `check_keys::search::first_same` meets its contract: the test is that of an item.
use Rattle.std.proofs.Common.{rules}
use Rattle.read_chain.specs.Chain.{key_of}
use Rattle.read_find.specs.Find.{first_of, item_matches, manner_of}
use Rattle.check_hash.specs.Key.{bytes_of}
use Rattle.check_keys.proofs.search.first_same.Goals as goal

pub returns : goal.returns
unfolding first_of
returns c = c.first_in.ensures (item_matches (manner_of c.args.manner) c.args.file.now c.args.table (bytes_of (key_of c.args.file.now c.args.table c.args.table.count c.args.index))) (λ at below told post. search rules)
