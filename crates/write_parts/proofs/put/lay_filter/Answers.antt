-- `write_parts::put::lay_filter` meets its contract. The invariant: the filter over the first k items is laid, and the rest is as it was.
use native.Mathlib.Omega.{arith}
use Rattle.write_parts.proofs.FilterLaws.{filter_none, filter_start, filter_turn, filter_end}
use Rattle.write_parts.proofs.put.lay_filter.Goals as goal

pub returns-then-filter-eq0 : goal.returns-then-filter-eq0
returns-then-filter-eq0 c =
    let args = c.args in
    filter_none args.numbered.now args.filter args.first args.image.now args.at args.count c.if-filter-eq0.true

pub loop-k-init : goal.loop-k-init
loop-k-init c =
    let args = c.args in
    filter_start args.numbered.now args.filter args.first args.image.now args.at c.fill.ensures

pub loop-k-preserved : goal.loop-k-preserved
loop-k-preserved c =
    let args = c.args in
    filter_turn args.numbered.now args.filter args.first _ args.at c.loop-k.k (omega (arith, c.if-filter-eq0.false)) (omega arith) c.slot_word-hash.ensures
    c.loop-k.invariant c.add_hash.ensures

pub returns : goal.returns
returns c =
    let args = c.args in
    filter_end args.numbered.now args.filter args.first args.image.now args.at args.count (omega arith) c.fill.ensures c.loop-k.invariant
