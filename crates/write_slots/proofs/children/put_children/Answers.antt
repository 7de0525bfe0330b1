-- `write_slots::children::put_children` meets its contract. The invariant: the child words passed have their indices, all else is as it was.
use native.Mathlib.Omega.{arith}
use lib.ListN.{get_or}
use Rattle.write_parts.specs.Numbered.{child_word, children_from}
use Rattle.write_numbers.specs.Roster.{item_index}
use Rattle.write_slots.specs.NumberedAs.{from_last}
use Rattle.write_slots.proofs.SlotLaws.{index_read, set_behind, set_apart, set_past}
use Rattle.write_slots.proofs.children.put_children.Goals as goal

pub loop-j-preserved : goal.loop-j-preserved
loop-j-preserved c =
    let a = c.args in
    let at = c.loop-j in
    record {
      is = set_behind (λ q. item_index a.roster.now (from_last a.words.now (get_or a.order.now q 0))) at.numbered children_from at.j _ (index_read a.roster.now _) (omega arith) at.invariant.is;
      kept = set_apart at.numbered a.numbered.now children_from at.j _ at.invariant.kept;
      rest = set_past at.numbered a.numbered.now children_from at.j _ at.invariant.rest;
    }

pub returns : goal.returns
unfolding child_word
returns c =
    let at = c.loop-j in
    record { long = at.auto.numbered; is = λ j h. at.invariant.is j (omega arith); kept = at.invariant.kept; rest = λ k h. at.invariant.rest k (omega arith) }
