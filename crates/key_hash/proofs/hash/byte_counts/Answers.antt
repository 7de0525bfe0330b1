-- `key_hash::hash::byte_counts` meets its contract: one law for each case.
use Rattle.std.proofs.Common.{refl, rules}
use Rattle.key_hash.proofs.HashLaws.{counts_signed}
use Rattle.key_hash.proofs.hash.byte_counts.Goals as goal

pub returns-in-Signed : goal.returns-in-Signed
returns-in-Signed c =
    (counts_signed _ c.in-Signed.is refl (search rules) refl, search rules)
