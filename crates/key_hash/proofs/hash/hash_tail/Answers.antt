-- `key_hash::hash::hash_tail` meets its contract: no byte, one, two or three, each a step.
use Rattle.std.proofs.Common.{arith}
use Rattle.key_hash.proofs.HashLaws.{tail_none, tail-one, tail-two, tail-three}
use Rattle.key_hash.proofs.hash.hash_tail.Goals as goal

pub returns-then-bytes-eq0 : goal.returns-then-bytes-eq0
returns-then-bytes-eq0 c = tail_none _ _ _ c.if-bytes-eq0.true

pub returns-then-bytes-eq1 : goal.returns-then-bytes-eq1
returns-then-bytes-eq1 c = tail-one _ _ _ c.hash_byte-one.ensures c.if-bytes-eq1.true

pub returns-then-bytes-eq2 : goal.returns-then-bytes-eq2
returns-then-bytes-eq2 c = tail-two _ _ _ c.hash_byte-one.ensures c.hash_byte-two.ensures c.if-bytes-eq2.true

pub returns : goal.returns
returns c =
    tail-three
    _
    _
    _
    c.hash_byte-one.ensures
    c.hash_byte-two.ensures
    c.hash_byte.ensures
    (omega arith)
