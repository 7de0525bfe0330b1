-- `check_hash::tally::joined_key` meets its contract: the invariant is `Tallying`, with the steps left.
use Rattle.std.proofs.Common.{◌-◌}
use Rattle.key_hash.specs.Hash.{rule_of}
use Rattle.check_hash.proofs.KeyLaws.{Tallying}
use Rattle.check_hash.proofs.tally.joined_key.Given as goal

abbrev pub invariant-loop : goal.invariant-loop
invariant-loop l =
    Tallying (rule_of l.form) l.file l.table l.index l.at l.total l.tally (l.table.count - l.counter)
