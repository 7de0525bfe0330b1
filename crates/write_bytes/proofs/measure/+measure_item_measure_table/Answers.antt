-- The cycle of `write_bytes::measure::measure_table` and `write_bytes::measure::measure_item` meets both contracts: what each return answers, and the loop's invariant.
use Rattle.std.proofs.Common.{◌≡◌, ◌+◌, length, sym, ap, ◌∙◌, arith}
use Rattle.layout.specs.Kind.{table_kind}
use Rattle.write_parts.specs.Numbered.{slot_kind, numbered_bytes}
use Rattle.write_parts.specs.Slot.{slot_item}
use Rattle.write_bytes.specs.Measure.{measured}
use Rattle.write_bytes.proofs.ItemLaws.{at_slot, item_end, table-item, plain-item}
use Rattle.write_bytes.proofs.TurnLaws.{AtTable, nothing_long, first_offset, table_ends, table_least, item_over, item_ends}
use Rattle.write_bytes.proofs.MeasureLaws.{within, beyond}
use Rattle.write_bytes.proofs.measure.+measure_item_measure_table.Goals as goal

pub measure_item-returns-then-start-gt-LONGEST_FILE : goal.measure_item-returns-then-start-gt-LONGEST_FILE
measure_item-returns-then-start-gt-LONGEST_FILE t c =
    let a = c.args in
    let g = at_slot c.requires.numbered_fits c.requires.slot_lt_most_items.0 in
    let inner = numbered_bytes a.filter a.numbered.now a.arena.now a.depth in
    let ends = item_end g inner a.at in
    sym (beyond _ (omega (arith, ends, c.value_start-start.ensures, c.if-start-gt-LONGEST_FILE.true)))

pub measure_item-returns-then-kind-eq-TABLE_KIND : goal.measure_item-returns-then-kind-eq-TABLE_KIND
measure_item-returns-then-kind-eq-TABLE_KIND t c =
    let a = c.args in
    let g = at_slot c.requires.numbered_fits c.requires.slot_lt_most_items.0 in
    let inner = numbered_bytes a.filter a.numbered.now a.arena.now a.depth in
    let kind = sym c.slot_word-kind.ensures ∙ c.if-kind-eq-TABLE_KIND.true in
    let ends = table-item g inner a.at kind c.slot_word-guest.ensures c.value_start-start.ensures in
    rw ends c.measure_table.ensures

pub measure_item-returns-then-start-size : goal.measure_item-returns-then-start-size
measure_item-returns-then-start-size t c =
    let a = c.args in
    let g = at_slot c.requires.numbered_fits c.requires.slot_lt_most_items.0 in
    let inner = numbered_bytes a.filter a.numbered.now a.arena.now a.depth in
    let plain : slot_kind a.numbered.now a.slot ≡ table_kind → ⊥ = λ e. c.if-kind-eq-TABLE_KIND.false (c.slot_word-kind.ensures ∙ e) in
    let ends = plain-item g inner a.filter a.at plain c.value_start-start.ensures in
    sym (beyond _ (omega (arith, ends, c.cover-size.ensures, c.if-start-size.true, c.if-start-gt-LONGEST_FILE.false)))

pub measure_item-returns : goal.measure_item-returns
measure_item-returns t c =
    let a = c.args in
    let g = at_slot c.requires.numbered_fits c.requires.slot_lt_most_items.0 in
    let inner = numbered_bytes a.filter a.numbered.now a.arena.now a.depth in
    let plain : slot_kind a.numbered.now a.slot ≡ table_kind → ⊥ = λ e. c.if-kind-eq-TABLE_KIND.false (c.slot_word-kind.ensures ∙ e) in
    let ends = plain-item g inner a.filter a.at plain c.value_start-start.ensures in
    let e : c.value_start-start.result + c.cover-size.result ≡ a.at + length (slot_item inner a.numbered.now a.arena.now a.slot a.at) = omega (arith, ends, c.cover-size.ensures) in
    sym (ap measured (sym e) ∙ within _ (omega (arith, c.if-start-size.false, c.if-start-gt-LONGEST_FILE.false)))

pub measure_table-returns-then-depth-eq0 : goal.measure_table-returns-then-depth-eq0
measure_table-returns-then-depth-eq0 t c =
    let a = c.args in
    sym (ap measured (nothing_long a.filter a.numbered.now a.arena.now a.table a.at a.depth c.if-depth-eq0.true) ∙ within _ c.requires.table_lt_most_tables.1)

pub measure_table-returns-then-end-gt-LONGEST_FILE : goal.measure_table-returns-then-end-gt-LONGEST_FILE
measure_table-returns-then-end-gt-LONGEST_FILE t c =
    let a = c.args in
    let r = c.requires in
    let g : AtTable a.filter a.numbered.now a.arena.now a.table a.at a.depth c.first_slot-first.result c.slot_count-count.result =
    record { fits = r.numbered_fits; known = r.table_lt_most_tables.0; low = r.table_lt_most_tables.2; deep = c.if-depth-eq0.false; first_is = c.first_slot-first.ensures; count_is = c.slot_count-count.ensures } in
    sym (beyond _ (omega (arith, table_least g, c.if-end-gt-LONGEST_FILE.true)))

pub measure_table-loop-k-init : goal.measure_table-loop-k-init
measure_table-loop-k-init t c =
    let a = c.args in
    let r = c.requires in
    let g : AtTable a.filter a.numbered.now a.arena.now a.table a.at a.depth c.first_slot-first.result c.slot_count-count.result =
    record { fits = r.numbered_fits; known = r.table_lt_most_tables.0; low = r.table_lt_most_tables.2; deep = c.if-depth-eq0.false; first_is = c.first_slot-first.ensures; count_is = c.slot_count-count.ensures } in
    record { table = g; short = omega (arith, c.if-end-gt-LONGEST_FILE.false); end_is = first_offset g }

pub measure_table-returns-in_default : goal.measure_table-returns-in_default
measure_table-returns-in_default t c =
    let g = c.loop-k.invariant.table in
    sym (beyond _ (item_over g c.loop-k.k c.loop-k-test.true c.loop-k.invariant.end_is c.measure_item.ensures c.in_default.is))

pub measure_table-loop-k-preserved : goal.measure_table-loop-k-preserved
measure_table-loop-k-preserved t c =
    let g = c.loop-k.invariant.table in
    let ends = item_ends g c.loop-k.k c.loop-k-test.true c.loop-k.invariant.end_is c.measure_item.ensures c.in-Some.is in
    record { table = g; short = ends.0; end_is = ends.1 }

pub measure_table-returns : goal.measure_table-returns
measure_table-returns t c =
    let a = c.args in
    let g = c.loop-k.invariant.table in
    let all : c.loop-k.k ≡ c.slot_count-count.result = omega arith in
    let ends : a.at + length (numbered_bytes a.filter a.numbered.now a.arena.now a.depth a.table a.at) ≡ c.loop-k.end =
    table_ends g ∙ sym (rw all at c.loop-k.invariant.end_is) in
    sym (ap measured ends ∙ within _ c.loop-k.invariant.short)
