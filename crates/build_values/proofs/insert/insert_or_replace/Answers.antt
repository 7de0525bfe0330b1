-- `build_values::insert::insert_or_replace` meets its contract.
use Rattle.key_hash.specs.Hash.{plain}
use Rattle.key_hash.proofs.HashLaws.{hash_whole}
use mathlib.Core.Path.{◌∙◌}
use Rattle.build_values.proofs.insert.insert_or_replace.Goals as goal

pub find_hashed-i-requires-clause-hash_value : goal.find_hashed-i-requires-clause-hash_value
find_hashed-i-requires-clause-hash_value c =
    let a = c.args in
    c.hash_on-hash.ensures ∙ hash_whole plain a.key.now a.walked.way.from a.walked.hash c.requires.from_in_bounds.1 c.requires.from_in_bounds.0

pub insert_new-requires-clause-from_in_bounds : goal.insert_new-requires-clause-from_in_bounds
insert_new-requires-clause-from_in_bounds c =
    let a = c.args in
    (c.requires.from_in_bounds.0, c.requires.from_in_bounds.1, c.hash_on-hash.ensures ∙ hash_whole plain a.key.now a.walked.way.from a.walked.hash c.requires.from_in_bounds.1 c.requires.from_in_bounds.0)
