-- `key_hash::hash::hash_on` meets its contract. The loop's invariant: the hash is what goes on from `value` over the bytes left.
use Rattle.std.proofs.Common.{◌≡◌, ◌*◌, drop}
use Rattle.key_hash.specs.Hash.{hash_from, rule_of}
use Rattle.key_hash.proofs.hash.hash_on.Given as goal

abbrev pub invariant-loop-a : goal.invariant-loop-a
invariant-loop-a l = hash_from (rule_of l.form) l.start l.bytes ≡ hash_from (rule_of l.form) l.value (drop (l.a-index * 4) l.bytes)
