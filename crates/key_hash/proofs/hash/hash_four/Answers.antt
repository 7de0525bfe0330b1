-- `key_hash::hash::hash_four` meets its contract: a stride is four steps.
use Rattle.std.proofs.Common.{◌*◌, sym, ◌∙◌}
use Rattle.key_hash.specs.Hash.{plain}
use Rattle.key_hash.proofs.HashLaws.{four_steps, mod_sum}
use Rattle.key_hash.proofs.hash.hash_four.Goals as goal

pub returns : goal.returns
returns c =
    let a = c.args in
    sym (four_steps plain a.value a.a a.b a.c a.d ∙ sym (mod_sum (a.value * 1185921) (a.a * 35937) (a.b * 1089) (a.c * 33) a.d) ∙ cc)
