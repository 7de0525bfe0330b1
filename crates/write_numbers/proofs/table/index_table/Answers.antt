-- `write_numbers::table::index_table` meets its contract: the items of the table, then their indices.
use mathlib.Core.Path.{sym}
use native.Mathlib.Omega.{arith}
use Rattle.write_numbers.proofs.TableLaws.{links_empty, collected_few, collected_long, collected_known, collected_once, laid}
use Rattle.write_numbers.proofs.table.index_table.Goals as goal

pub slice_bounds-members-end : goal.slice_bounds-members-end
slice_bounds-members-end c = omega (arith, collected_few c.requires.0 c.collect-n.ensures (omega arith))

pub slice_bounds-index_by_key-end : goal.slice_bounds-index_by_key-end
slice_bounds-index_by_key-end c = sym (collected_long c.requires.0 c.collect-n.ensures (omega arith))

pub index_by_key-requires-clause-known : goal.index_by_key-requires-clause-known
index_by_key-requires-clause-known c = (collected_known c.requires.0 c.collect-n.ensures (omega arith), collected_once c.requires.0 c.collect-n.ensures (omega arith))

pub index_by_key-requires-clause-rooms : goal.index_by_key-requires-clause-rooms
index_by_key-requires-clause-rooms c =
    let few = collected_few c.requires.0 c.collect-n.ensures (omega arith) in
    let long = collected_long c.requires.0 c.collect-n.ensures (omega arith) in
    let count = c.collect-n.ensures.count in
    (record { few = omega (arith, few, long); in_order = omega (arith, count, long, c.requires.1); in_firsts = omega (arith, count, long, c.requires.2) }, links_empty _ c.requires.0.fit)

pub returns-clause-indexed_as : goal.returns-clause-indexed_as
returns-clause-indexed_as c = laid c.requires.0 c.collect-n.ensures (omega arith) c.args.form c.index_by_key.ensures.after c.index_by_key.ensures.firsts_after
