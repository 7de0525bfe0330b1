-- The cycle of `write_bytes::table::lay_table` and `write_bytes::table::lay_item` meets both contracts: what each call asks, what each return gives, and the loop's invariant.
use Rattle.std.proofs.Common.{◌≡◌, sym, ◌∙◌, arith}
use Rattle.layout.specs.Kind.{table_kind}
use Rattle.write_parts.specs.Numbered.{slot_kind, numbered_bytes}
use Rattle.write_parts.proofs.SlotLaws.{start_above}
use Rattle.write_bytes.proofs.ItemLaws.{at_slot, slot_fits, item_end, record_fits, item_laid, guest_is, table-item, plain_end, value-plain}
use Rattle.write_bytes.proofs.TurnLaws.{AtTable, nothing_laid, table_least, turn, begun, more, whole}
use Rattle.write_bytes.proofs.table.+lay_item_lay_table.Goals as goal

pub lay_item-lay_record-requires-clause-record_fits : goal.lay_item-lay_record-requires-clause-record_fits
lay_item-lay_record-requires-clause-record_fits t c =
    let a = c.args in
    let r = c.requires in
    let g = at_slot r.numbered_fits r.slot_lt_most_items.0 in
    let inner = numbered_bytes a.filter a.numbered.now a.arena.now a.depth in
    rw c.value_start-start.ensures (record_fits g inner a.filter a.at r.slot_lt_most_items.2 (omega (arith, r.at_in_bounds)))

pub lay_item-lay_key-requires-clause-slot_bound : goal.lay_item-lay_key-requires-clause-slot_bound
lay_item-lay_key-requires-clause-slot_bound t c =
    let a = c.args in
    let r = c.requires in
    let g = at_slot r.numbered_fits r.slot_lt_most_items.0 in
    let inner = numbered_bytes a.filter a.numbered.now a.arena.now a.depth in (
      omega (arith, c.value_start-start.ensures, start_above a.numbered.now a.slot a.at),
      omega (arith, c.value_start-start.ensures, c.lay_record.auto.image, item_end g inner a.at, r.at_in_bounds),
    )

pub lay_item-lay_table-requires : goal.lay_item-lay_table-requires
lay_item-lay_table-requires t c =
    let a = c.args in
    let r = c.requires in
    let g = at_slot r.numbered_fits r.slot_lt_most_items.0 in
    let inner = numbered_bytes a.filter a.numbered.now a.arena.now a.depth in
    let kind = sym c.slot_word-kind.ensures ∙ c.if-kind-eq-TABLE_KIND.true in
    let guest = c.slot_word-guest.ensures in
    let ends = table-item g inner a.at kind guest c.value_start-start.ensures in (
      omega (arith, c.decreases),
      (
        r.numbered_fits,
        (
          (omega (arith, guest, (slot_fits g).guest kind), r.slot_lt_most_items.2),
          (
            omega (arith, ends, r.at_in_bounds, c.lay_key.auto.image, c.lay_record.auto.image),
            omega (arith, r.at_in_bounds, c.lay_key.auto.image, c.lay_record.auto.image),
          ),
        ),
      ),
    )

pub lay_item-returns-then-kind-eq-TABLE_KIND : goal.lay_item-returns-then-kind-eq-TABLE_KIND
lay_item-returns-then-kind-eq-TABLE_KIND t c =
    let a = c.args in
    let g = at_slot c.requires.numbered_fits c.requires.slot_lt_most_items.0 in
    let inner = numbered_bytes a.filter a.numbered.now a.arena.now a.depth in
    let kind = sym c.slot_word-kind.ensures ∙ c.if-kind-eq-TABLE_KIND.true in
    item_laid g inner a.filter a.image.now a.to a.at c.value_start-start.ensures c.lay_record.ensures c.lay_key.ensures (guest_is g inner kind c.slot_word-guest.ensures) c.lay_table.ensures

pub lay_item-lay_plain-requires-clause-slot_in_bounds : goal.lay_item-lay_plain-requires-clause-slot_in_bounds
lay_item-lay_plain-requires-clause-slot_in_bounds t c =
    let a = c.args in
    let r = c.requires in
    let g = at_slot r.numbered_fits r.slot_lt_most_items.0 in
    let inner = numbered_bytes a.filter a.numbered.now a.arena.now a.depth in
    let plain : slot_kind a.numbered.now a.slot ≡ table_kind → ⊥ = λ e. c.if-kind-eq-TABLE_KIND.false (c.slot_word-kind.ensures ∙ e) in
    let ends = plain_end g inner a.at plain c.value_start-start.ensures in
    omega (arith, ends, r.at_in_bounds, c.lay_key.auto.image, c.lay_record.auto.image)

pub lay_item-returns : goal.lay_item-returns
lay_item-returns t c =
    let a = c.args in
    let g = at_slot c.requires.numbered_fits c.requires.slot_lt_most_items.0 in
    let inner = numbered_bytes a.filter a.numbered.now a.arena.now a.depth in
    let plain : slot_kind a.numbered.now a.slot ≡ table_kind → ⊥ = λ e. c.if-kind-eq-TABLE_KIND.false (c.slot_word-kind.ensures ∙ e) in
    item_laid g inner a.filter a.image.now a.to a.at c.value_start-start.ensures c.lay_record.ensures c.lay_key.ensures (sym (value-plain g inner _ plain)) c.lay_plain.ensures

pub lay_table-returns-then-depth-eq0 : goal.lay_table-returns-then-depth-eq0
lay_table-returns-then-depth-eq0 t c =
    let a = c.args in
    nothing_laid a.filter a.numbered.now a.arena.now a.table a.at a.depth a.image.now c.if-depth-eq0.true

pub lay_table-lay_front-requires-clause-count_in_bounds : goal.lay_table-lay_front-requires-clause-count_in_bounds
lay_table-lay_front-requires-clause-count_in_bounds t c =
    let a = c.args in
    let r = c.requires in
    let g : AtTable a.filter a.numbered.now a.arena.now a.table a.at a.depth c.first_slot-first.result c.slot_count-count.result =
    record { fits = r.numbered_fits; known = r.table_lt_most_tables.0; low = r.table_lt_most_tables.1; deep = c.if-depth-eq0.false; first_is = c.first_slot-first.ensures; count_is = c.slot_count-count.ensures } in
    omega (arith, table_least g, r.at_in_bounds)

pub lay_table-loop-k-init : goal.lay_table-loop-k-init
lay_table-loop-k-init t c =
    let a = c.args in
    let r = c.requires in
    let g : AtTable a.filter a.numbered.now a.arena.now a.table a.at a.depth c.first_slot-first.result c.slot_count-count.result =
    record { fits = r.numbered_fits; known = r.table_lt_most_tables.0; low = r.table_lt_most_tables.1; deep = c.if-depth-eq0.false; first_is = c.first_slot-first.ensures; count_is = c.slot_count-count.ensures } in
    record { table = g; half = begun g _ }

pub lay_table-lay_item-end-requires : goal.lay_table-lay_item-end-requires
lay_table-lay_item-end-requires t c =
    let r = c.requires in
    let g = c.loop-k.invariant.table in
    let turns = turn g c.loop-k.k c.loop-k-test.true c.loop-k.invariant.half.end_is _ r.at_in_bounds.0 in
    let long = c.loop-k.auto.image ∙ c.lay_front.auto.image in
    (omega (arith, c.decreases, c.if-depth-eq0.false), (r.numbered_fits, ((turns.inside, turns.apart, g.low), (rw long turns.fits, rw long r.at_in_bounds.1))))

pub lay_table-loop-k-preserved : goal.lay_table-loop-k-preserved
lay_table-loop-k-preserved t c =
    let g = c.loop-k.invariant.table in
    record { table = g; half = more g c.loop-k.k c.loop-k-test.true c.loop-k.invariant.half c.lay_item-end.ensures }

pub lay_table-returns : goal.lay_table-returns
lay_table-returns t c =
    let a = c.args in
    let g = c.loop-k.invariant.table in
    let all : c.loop-k.k ≡ c.slot_count-count.result = omega arith in
    whole g a.image.now all c.lay_front.ensures c.loop-k.invariant.half
