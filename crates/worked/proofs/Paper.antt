-- P1 to P12: every line of the table holds, by computation.
use Rattle.std.proofs.Common.{refl}
use Rattle.words.specs.Choice.{pick}
use Rattle.key_hash.specs.Hash.{hash_from, hash_by}
use Rattle.words.specs.Align.{aligned}
use Rattle.words.specs.Bits.{bloom_count}
use Rattle.key_order.specs.Prefix.{ends_from, prefixes}
use Rattle.worked.specs.Paper.{paper, AllHold}

pub paper-holds : AllHold paper
unfolding pick hash_by hash_from aligned bloom_count prefixes ends_from
paper-holds = (refl, (refl, (refl, (refl, (refl, (refl, (refl, (refl, (refl, (refl, (refl, (refl, tt))))))))))))
