-- `check_keys::search::same_key` meets its contract: each turn leaves one step fewer.
use Prim.Native.Nat.{suc, ◌+◌, ◌-◌}
use mathlib.Core.Path.{◌≡◌, subst}
use native.Mathlib.Omega.{arith}
use Rattle.check_keys.specs.Front.{ItemCompared}
use Rattle.check_keys.proofs.SameLaws.{same_start, same_ended, same_up}
use Rattle.check_keys.proofs.search.same_key.Goals as goal

pub loop-init : goal.loop-init
loop-init c = same_start _ _ c.requires.1 c.requires.0 c.front_at-here.ensures (omega arith)

pub returns-in-Ended : goal.returns-in-Ended
returns-in-Ended c =
    let one : c.args.table.count - c.loop.counter ≡ suc (c.args.table.count - (c.loop.counter + 1)) = omega arith in
    same_ended _ _ _ _ c.loop.invariant one (subst (ItemCompared _ _ _ _) c.in-Ended.is c.compare_item.ensures)

pub loop-preserved : goal.loop-preserved
loop-preserved c =
    same_up _ _ _ _ c.loop.invariant (omega arith) (subst (ItemCompared _ _ _ _) c.in-Rest.is c.compare_item.ensures)
