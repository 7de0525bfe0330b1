-- `write_slots::slot::slot_of` meets its contract.
use native.Mathlib.Omega.{arith}
use Rattle.write_slots.proofs.SlotLaws.{slot_own}
use Rattle.write_slots.proofs.slot.slot_of.Goals as goal

pub overflow_add-result-2 : goal.overflow_add-result-2
overflow_add-result-2 c =
    let a = c.args in omega (arith, slot_own a.words.now a.roster.now a.i _ c.item_word-table.ensures, c.requires.within)

pub returns : goal.returns
returns c =
    let a = c.args in
    let e = slot_own a.words.now a.roster.now a.i _ c.item_word-table.ensures in (e, omega (arith, e, c.requires.within))
