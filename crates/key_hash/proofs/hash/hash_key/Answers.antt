-- `key_hash::hash::hash_key` meets its contract: in either form the hash goes on from 5381.
use Rattle.key_hash.specs.Hash.{hash_by}
use Rattle.key_hash.proofs.hash.hash_key.Goals as goal

pub returns-in-Signed : goal.returns-in-Signed
unfolding hash_by
returns-in-Signed c = rw c.in-Signed.is c.hash_on.ensures
