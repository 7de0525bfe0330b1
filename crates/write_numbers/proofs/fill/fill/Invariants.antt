-- `write_numbers::fill::fill` meets its contract. The invariant: the tables before t are filled, and the words are as they were.
use mathlib.Core.Path.{◌≡◌}
use Rattle.key_hash.specs.Hash.{rule_of}
use Rattle.write_numbers.specs.Fill.{first_slot_of, Filled}
use Rattle.write_numbers.proofs.fill.fill.Given as goal

abbrev pub invariant-loop-t : goal.invariant-loop-t
invariant-loop-t l = record {
  first_is : l.first ≡ first_slot_of l.initial.words l.t;
  filled : Filled (rule_of l.form) l.initial.words l.arena l.t l.heads l.slots l.indices l.buckets;
  words_unchanged : l.words ≡ l.initial.words;
}
