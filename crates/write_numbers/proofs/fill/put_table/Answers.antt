-- `write_numbers::fill::put_table` meets its contract: nothing is put for a table that has no item; else its items get their indices in its slots.
use mathlib.Core.Path.{sym, ◌∙◌}
use native.Mathlib.Omega.{arith}
use Rattle.write_numbers.proofs.BareLaws.{put_bare}
use Rattle.write_numbers.proofs.FillLaws.{indexed_count, slots_part, slots_part_below, put_all}
use Rattle.write_numbers.proofs.fill.put_table.Goals as goal

pub returns-then-not-has_items-clause-put : goal.returns-then-not-has_items-clause-put
returns-then-not-has_items-clause-put c =
    let a = c.args in
    put_bare a.words.now a.arena.now a.t (sym c.has_items.ensures ∙ c.if-not-has_items.true) a.first a.slots.now a.indices.now a.buckets.now

pub overflow_add-first : goal.overflow_add-first
overflow_add-first c =
    let (judged, fits) = c.requires.judged in
    omega (arith, indexed_count c.args.first judged.fit fits c.requires.sized c.index_table-n.ensures.indexed_as)

pub slice_bounds-index_items-end : goal.slice_bounds-index_items-end
slice_bounds-index_items-end c =
    let (judged, fits) = c.requires.judged in
    omega (arith, indexed_count c.args.first judged.fit fits c.requires.sized c.index_table-n.ensures.indexed_as, fits, c.requires.sized.of_slots)

pub index_items-requires : goal.index_items-requires
index_items-requires c =
    let (judged, fits) = c.requires.judged in
    slots_part_below c.args.first judged.fit fits c.requires.sized c.index_table-n.ensures.indexed_as

pub returns-clause-put : goal.returns-clause-put
returns-clause-put c =
    let (judged, fits) = c.requires.judged in
    let indexed = c.index_table-n.ensures.indexed_as in
    put_all c.args.first judged.fit fits c.requires.sized indexed c.index_items.new.indices _ (slots_part c.args.first judged.fit fits c.requires.sized indexed) c.index_items.ensures
