-- `write_slots::slot::is_child` meets its contract, test by test.
use Rattle.write_slots.proofs.SlotLaws.{child_none, child_own}
use Rattle.write_slots.proofs.slot.is_child.Goals as goal

pub returns-then-parent-eq0 : goal.returns-then-parent-eq0
returns-then-parent-eq0 c = let a = c.args in child_none a.words.now a.i _ c.item_word-parent.ensures c.if-parent-eq0.true

pub returns : goal.returns
returns c =
    let a = c.args in child_own a.words.now a.i _ _ c.item_word-parent.ensures c.if-parent-eq0.false c.item_word.ensures
