-- `write_slots::slot::put_front` meets its contract.
use mathlib.Core.Path.{◌∙◌}
use Rattle.write_slots.proofs.TurnLaws.{front_made}
use Rattle.write_slots.proofs.slot.put_front.Goals as goal

pub returns : goal.returns
returns c =
    let a = c.args in
    c.put.ensures ∙ front_made a.words.now a.roster.now a.numbered.now a.i a.at a.form a.arena.now _ _ _ _ _ c.hash_of-hash.ensures c.parent_word-parent.ensures c.skip_of-skip.ensures c.item_word.ensures c.item_word-2.ensures
