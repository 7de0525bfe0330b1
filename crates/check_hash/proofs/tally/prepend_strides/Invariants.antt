-- `check_hash::tally::prepend_strides` meets its contract: the invariant says that the strides from the back that were passed are in the tally.
use Rattle.std.proofs.Common.{◌≡◌, ◌-◌, ◌*◌, length, drop}
use Rattle.key_hash.specs.Hash.{rule_of}
use Rattle.check_hash.specs.Tally.{prepend}
use Rattle.check_hash.proofs.tally.prepend_strides.Given as goal

abbrev pub invariant-loop-a : goal.invariant-loop-a
invariant-loop-a l =
    l.state ≡ prepend (rule_of l.form) (drop (length l.bytes - 4 * length l.yielded) l.bytes) l.initial.state
