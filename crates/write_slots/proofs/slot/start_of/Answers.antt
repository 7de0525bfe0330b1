-- `write_slots::slot::start_of` meets its contract, kind by kind.
use Rattle.write_slots.proofs.SlotLaws.{start-value, start_guest, start_child}
use Rattle.write_slots.proofs.slot.start_of.Goals as goal

pub returns-then-kind-eq-VALUE_KIND : goal.returns-then-kind-eq-VALUE_KIND
returns-then-kind-eq-VALUE_KIND c =
    let a = c.args in start-value a.words.now a.firsts.now a.i _ c.item_word-kind.ensures c.if-kind-eq-VALUE_KIND.true _ c.item_word.ensures

pub returns-then-kind-eq-TABLE_KIND : goal.returns-then-kind-eq-TABLE_KIND
returns-then-kind-eq-TABLE_KIND c =
    let a = c.args in start_guest a.words.now a.firsts.now a.i _ c.item_word-kind.ensures c.if-kind-eq-TABLE_KIND.true _ c.item_word-then-kind-eq-TABLE_KIND.ensures

pub returns : goal.returns
returns c =
    let a = c.args in start_child a.words.now a.firsts.now a.i _ c.item_word-kind.ensures c.if-kind-eq-VALUE_KIND.false c.if-kind-eq-TABLE_KIND.false
