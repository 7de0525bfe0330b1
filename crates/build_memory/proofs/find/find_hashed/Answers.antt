-- `build_memory::find::find_hashed` meets its contract. The invariant: the search from the start is the search from here.
use Rattle.build_memory.proofs.FindLaws.{find_start, find_hit, find_next, find_none}
use native.Mathlib.Omega.{arith}
use Rattle.build_memory.proofs.find.find_hashed.Goals as goal

pub loop-i-init : goal.loop-i-init
loop-i-init c = (omega arith, find_start _ _ _ _ _ c.requires.hash_value)

pub returns-then-is_item : goal.returns-then-is_item
returns-then-is_item c =
    record {
      value = find_hit _ _ _ _ _ c.requires.hash_value _ _ c.loop-i-test.true _ c.is_item.ensures c.if-is_item.true c.loop-i.invariant.1;
      within = omega arith;
    }

pub loop-i-preserved : goal.loop-i-preserved
loop-i-preserved c = (
  omega arith,
  find_next _ _ _ _ _ c.requires.hash_value _ _ c.loop-i-test.true _ c.is_item.ensures c.if-is_item.false c.loop-i.invariant.1 _
      c.item_word-i.ensures,
)

pub returns : goal.returns
returns c =
    record {
      value = find_none _ _ _ _ _ _ c.loop-i-test.false c.loop-i.invariant.1;
      within = omega arith;
    }
