-- `build_values::insert::make_containers` meets its contract. The invariant: the containers from the start are the containers from here, the counts grow as the
-- ends are passed, and the hash is that of the key up to here.
use Rattle.build_values.proofs.WalkLaws.{further, last, make_end, make_more}
use Rattle.build_values.specs.Walk.{sum}
use Rattle.build_memory.proofs.MadeLaws.{made_all}
use Rattle.build_memory.specs.Item.{stored}
use Rattle.layout.specs.Kind.{container_kind}
use Rattle.build_memory.specs.Memory.{memory}
use Rattle.key_hash.specs.Hash.{plain}
use Rattle.key_hash.proofs.HashLaws.{hash_further}
use lib.Seq.{length-take-le}
use lib.ListN.{length, take}
use native.Mathlib.Omega.{arith}
use mathlib.Core.List.{[]}
use mathlib.Core.Path.{refl, sym, ap, ◌∙◌}
use Rattle.build_values.proofs.insert.make_containers.Goals as goal

pub loop-table-init : goal.loop-table-init
loop-table-init c = (c.requires.least_words_in_bounds.1, refl, refl, refl, refl, refl, c.requires.hash_value)

pub next_end-e-requires : goal.next_end-e-requires
next_end-e-requires c = c.loop-table.invariant.0

pub shape_of-words-then-key-e : goal.shape_of-words-then-key-e
shape_of-words-then-key-e c = c.loop-table.invariant.1

pub shape_of-arena-then-key-e : goal.shape_of-arena-then-key-e
shape_of-arena-then-key-e c = c.loop-table.invariant.2

pub returns-then-key-e : goal.returns-then-key-e
unfolding sum
returns-then-key-e c =
    let a = c.args in
    let g = last a.sep a.key.now c.loop-table.at c.loop-table.invariant.0 _ c.next_end-e.ensures.value c.if-key-e.true in
    let number = ap length g in
    let total = ap sum g in record {
      result_after = make_end a.sep a.key.now c.loop-table.at c.loop-table.invariant.0 _ c.next_end-e.ensures.value a.table (memory c.loop-table.words c.loop-table.arena) c.loop-table.above c.if-key-e.true ∙ sym c.loop-table.invariant.5;
      counts = omega arith;
    }

pub slice_bounds-make_item-end : goal.slice_bounds-make_item-end
slice_bounds-make_item-end c = sym (length-take-le c.next_end-e.result c.args.key.now (omega arith))

pub make_item-requires : goal.make_item-requires
make_item-requires c =
    let a = c.args in
    let e = c.next_end-e.result in
    let f = further a.sep a.key.now c.loop-table.at c.loop-table.invariant.0 _ c.next_end-e.ensures.value c.if-key-e.false in
    let n = length-take-le e a.key.now (omega arith) in record {
      least_words_in_bounds = (omega arith, omega arith);
      value_in_bounds = omega arith;
      hash_value = c.hash_on-further.ensures ∙ hash_further plain a.key.now c.loop-table.at c.loop-table.hash c.loop-table.invariant.6 e (omega arith);
    }

pub loop-table-smaller : goal.loop-table-smaller
loop-table-smaller c =
    let a = c.args in
    let f = further a.sep a.key.now c.loop-table.at c.loop-table.invariant.0 _ c.next_end-e.ensures.value c.if-key-e.false in
    omega arith

pub loop-table-preserved : goal.loop-table-preserved
loop-table-preserved c =
    let a = c.args in
    let e = c.next_end-e.result in
    let f = further a.sep a.key.now c.loop-table.at c.loop-table.invariant.0 e c.next_end-e.ensures.value c.if-key-e.false in
    let n = length-take-le e a.key.now (omega arith) in
    let m =
    made_all c.loop-table.words c.loop-table.arena a.table c.loop-table.above (take e a.key.now) (stored container_kind [] 0) c.make_item.new.words c.make_item.new.arena (omega arith)
    (omega (arith, c.requires.from_bound)) c.make_item.ensures in (
      omega arith,
      omega arith,
      omega arith,
      omega (arith, c.loop-table.invariant.3, f.number, m.count),
      omega (arith, c.loop-table.invariant.4, f.total, m.used, n),
      c.loop-table.invariant.5
          ∙ make_more a.sep a.key.now c.loop-table.at c.loop-table.invariant.0 e c.next_end-e.ensures.value a.table (memory c.loop-table.words c.loop-table.arena) c.loop-table.above
          (memory c.make_item.new.words c.make_item.new.arena) c.if-key-e.false c.make_item.ensures,
      c.hash_on-further.ensures ∙ hash_further plain a.key.now c.loop-table.at c.loop-table.hash c.loop-table.invariant.6 e (omega arith),
    )
