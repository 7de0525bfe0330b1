-- `write_slots::slot::skip_of` meets its contract: a child has a parent.
use mathlib.Core.Path.{sym, ◌∙◌}
use native.Mathlib.Omega.{arith}
use Rattle.write_slots.proofs.SlotLaws.{skip_none, skip_own, child_some}
use Rattle.write_slots.proofs.slot.skip_of.Goals as goal

pub returns-then-not-is_child : goal.returns-then-not-is_child
returns-then-not-is_child c =
    let a = c.args in skip_none a.words.now a.i (sym c.is_child.ensures ∙ c.if-not-is_child.true)

pub overflow_sub-item_word : goal.overflow_sub-item_word
overflow_sub-item_word c =
    let a = c.args in
    let n = child_some a.words.now a.i (sym c.is_child.ensures ∙ c.if-not-is_child.false) in
    omega (arith, c.item_word.ensures, n)

pub returns : goal.returns
returns c =
    let a = c.args in skip_own a.words.now a.i (sym c.is_child.ensures ∙ c.if-not-is_child.false) _ _ c.item_word.ensures c.item_word-2.ensures
