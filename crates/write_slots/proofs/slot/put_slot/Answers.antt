-- `write_slots::slot::put_slot` meets its contract: four words and four more.
use Rattle.write_slots.proofs.TurnLaws.{halves_put}
use Rattle.write_slots.proofs.slot.put_slot.Goals as goal

pub returns : goal.returns
returns c =
    let a = c.args in
    halves_put a.form a.words.now a.arena.now a.roster.now a.firsts.now a.numbered.now a.i c.slot_of.ensures.0 c.put_front.ensures c.put_back.ensures
