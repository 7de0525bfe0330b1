-- `write_slots::numbered::put_slots` meets its contract. The invariant: the slots of the items passed have their words, and every slot can be laid.
use native.Mathlib.Omega.{arith}
use Rattle.write_slots.proofs.StateLaws.{fully_valid_lem}
use Rattle.write_slots.proofs.RosterLaws.{slotted}
use Rattle.write_slots.proofs.TurnLaws.{slots_more}
use Rattle.write_slots.proofs.numbered.put_slots.Goals as goal

pub bounds-words-3 : goal.bounds-words-3
bounds-words-3 c = omega (arith, (fully_valid_lem _ _ c.requires.arena_value).valid.long)

pub put_slot-requires-clause-slotted : goal.put_slot-requires-clause-slotted
put_slot-requires-clause-slotted c =
    let a = c.args in
    slotted a.words.now a.arena.now a.roster.now (fully_valid_lem _ _ c.requires.arena_value) c.requires.rostered c.loop-i.i c.loop-i-test.true (omega arith)

pub loop-i-preserved : goal.loop-i-preserved
loop-i-preserved c =
    let a = c.args in
    rw c.put_slot.ensures (slots_more a.form a.words.now a.arena.now a.roster.now a.firsts.now (fully_valid_lem _ _ c.requires.arena_value) c.requires.rostered c.requires.firsts a.numbered.now c.loop-i.numbered c.loop-i.i c.requires.numbered_len.0 c.loop-i-test.true c.loop-i.invariant)
