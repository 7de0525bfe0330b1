-- `write_parts::slot::cover` meets its contract, kind by kind.
use mathlib.Core.Path.{sym, ap, ◌∙◌}
use native.Mathlib.Omega.{arith}
use Rattle.write_parts.specs.Numbered.{slot_count}
use Rattle.write_parts.proofs.SlotLaws.{cover_value, cover_table, cover_container}
use Rattle.write_parts.proofs.slot.cover.Goals as goal

pub returns-then-kind-eq-VALUE_KIND : goal.returns-then-kind-eq-VALUE_KIND
returns-then-kind-eq-VALUE_KIND c =
    let args = c.args in
    c.slot_word-size.ensures ∙ sym (cover_value args.filter args.numbered.now args.slot (sym c.slot_word-kind.ensures ∙ c.if-kind-eq-VALUE_KIND.true))

pub returns-then-kind-eq-TABLE_KIND : goal.returns-then-kind-eq-TABLE_KIND
returns-then-kind-eq-TABLE_KIND c =
    let args = c.args in
    let count = c.slot_count.ensures ∙ ap (slot_count args.numbered.now) c.slot_word-guest.ensures in
    omega (arith, count, cover_table args.filter args.numbered.now args.slot (sym c.slot_word-kind.ensures ∙ c.if-kind-eq-TABLE_KIND.true))

pub returns : goal.returns
returns c =
    let args = c.args in
    let plain = cover_container args.filter args.numbered.now args.slot (λ e. c.if-kind-eq-VALUE_KIND.false (c.slot_word-kind.ensures ∙ e)) (λ e. c.if-kind-eq-TABLE_KIND.false (c.slot_word-kind.ensures ∙ e)) in
    omega (arith, c.slot_word-size.ensures, plain)
