-- `write_slots::numbered::put_slots` meets its contract. The invariant: the slots of the items passed have their words, and every slot can be laid.
use Rattle.write_slots.specs.NumberedAs.{NumberedSlots}
use Rattle.write_slots.proofs.numbered.put_slots.Given as goal

abbrev pub invariant-loop-i : goal.invariant-loop-i
invariant-loop-i l = NumberedSlots l.form l.words l.arena l.roster l.firsts l.initial.numbered l.numbered l.i
