-- `write_slots::slot::put_back` meets its contract.
use mathlib.Core.Path.{◌∙◌}
use Rattle.write_slots.proofs.TurnLaws.{back_made}
use Rattle.write_slots.proofs.slot.put_back.Goals as goal

pub returns : goal.returns
returns c =
    let a = c.args in
    c.put.ensures ∙ back_made a.words.now a.roster.now a.numbered.now a.i a.at a.firsts.now _ _ _ _ c.item_word-kind.ensures c.start_of-start.ensures c.size_of-size.ensures c.slot_of-slot.ensures.0
