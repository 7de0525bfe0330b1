-- `build_values::walk::cost_of` meets its contract. The invariant: what is counted and what is left make the whole.
use Rattle.build_values.proofs.WalkLaws.{further, last}
use Rattle.build_values.specs.Walk.{sum}
use lib.ListN.{length}
use native.Mathlib.Omega.{arith}
use mathlib.Core.Path.{ap}
use Rattle.build_values.proofs.walk.cost_of.Goals as goal

pub returns-then-key-e : goal.returns-then-key-e
unfolding sum
returns-then-key-e c =
    let a = c.args in
    let g = last a.sep a.key.now c.loop-from.at c.loop-from.invariant.0 _ c.next_end-e.ensures.value c.if-key-e.true in
    omega (arith, ap length g, ap sum g)

pub loop-from-smaller : goal.loop-from-smaller
loop-from-smaller c =
    let a = c.args in
    let f = further a.sep a.key.now c.loop-from.at c.loop-from.invariant.0 _ c.next_end-e.ensures.value c.if-key-e.false in
    omega arith

pub loop-from-preserved : goal.loop-from-preserved
loop-from-preserved c =
    let a = c.args in
    let f = further a.sep a.key.now c.loop-from.at c.loop-from.invariant.0 _ c.next_end-e.ensures.value c.if-key-e.false in
    omega arith
