-- `key_hash::hash::djb_hash` meets its contract: the hash goes on from 5381.
use Rattle.key_hash.specs.Hash.{hash_by}
use Rattle.key_hash.proofs.hash.djb_hash.Goals as goal

pub returns : goal.returns
unfolding hash_by
returns c = c.hash_on.ensures
