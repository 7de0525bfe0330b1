-- `write_slots::slot::parent_word` meets its contract: a child has a parent.
use mathlib.Core.Path.{sym, ◌∙◌}
use native.Mathlib.Omega.{arith}
use Rattle.write_slots.proofs.SlotLaws.{word_none, word_own, child_some}
use Rattle.write_slots.proofs.slot.parent_word.Goals as goal

pub returns-then-not-is_child : goal.returns-then-not-is_child
returns-then-not-is_child c =
    let a = c.args in word_none a.words.now a.i a.roster.now (sym c.is_child.ensures ∙ c.if-not-is_child.true)

pub overflow_sub-above : goal.overflow_sub-above
overflow_sub-above c =
    let a = c.args in
    let n = child_some a.words.now a.i (sym c.is_child.ensures ∙ c.if-not-is_child.false) in
    omega (arith, c.item_word-above.ensures, n)

pub returns : goal.returns
returns c =
    let a = c.args in word_own a.words.now a.i a.roster.now (sym c.is_child.ensures ∙ c.if-not-is_child.false) _ c.item_word-above.ensures
