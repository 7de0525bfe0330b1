-- `check_hash::tally::prepend_each` meets its contract: the invariant says that the bytes from the back that were passed are in the tally.
use Rattle.std.proofs.Common.{◌≡◌, ◌-◌, length, drop}
use Rattle.key_hash.specs.Hash.{rule_of}
use Rattle.check_hash.specs.Tally.{prepend}
use Rattle.check_hash.proofs.tally.prepend_each.Given as goal

abbrev pub invariant-loop-byte : goal.invariant-loop-byte
invariant-loop-byte l =
    l.state ≡ prepend (rule_of l.form) (drop (length l.bytes - length l.yielded) l.bytes) l.initial.state
