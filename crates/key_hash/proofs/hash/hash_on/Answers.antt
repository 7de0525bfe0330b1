-- `key_hash::hash::hash_on` meets its contract. The loop's invariant: the hash is what goes on from `value` over the bytes left.
use Rattle.std.proofs.Common.{◌≡◌, ◌+◌, ◌*◌, ◌/◌, ◌<◌, ℕ, length, drop, refl, ap, ◌∙◌, arith}
use Rattle.key_hash.specs.Hash.{hash_from, rule_of}
use Rattle.key_hash.proofs.HashLaws.{hash_stride, byte_of_chunk}
use Rattle.key_hash.proofs.hash.hash_on.Goals as goal

pub loop-a-preserved : goal.loop-a-preserved
loop-a-preserved c =
    let bytes = c.args.bytes.now in
    let rule = rule_of c.args.form in
    let i = c.loop-a.a-index in
    let front = c.as_chunks.ensures.front in
    let fits : i < length bytes / 4 = omega (arith, c.as_chunks.ensures.front_len) in
    let next : i * 4 + 4 ≡ (i + 1) * 4 = omega arith in
    c.loop-a.invariant
    ∙ hash_stride rule bytes (i * 4) _ (omega arith) (c.byte_counts-a.ensures.0 ∙ ap rule (byte_of_chunk _ bytes front i 0 fits (omega arith) (omega arith)))
    (c.byte_counts-b.ensures.0 ∙ ap rule (byte_of_chunk _ bytes front i 1 fits (omega arith) refl)) (c.byte_counts-c.ensures.0 ∙ ap rule (byte_of_chunk _ bytes front i 2 fits (omega arith) refl))
    (c.byte_counts-d.ensures.0 ∙ ap rule (byte_of_chunk _ bytes front i 3 fits (omega arith) refl)) c.hash_four-value.ensures
    ∙ ap (λ (n : ℕ). hash_from rule c.hash_four-value.result (drop n bytes)) next
