-- `read_chain::chain::chain_names` meets its contract: each turn leaves one step fewer.
use Prim.Native.Nat.{suc, ◌+◌, ◌-◌}
use mathlib.Core.Path.{◌≡◌}
use native.Mathlib.Omega.{arith}
use Rattle.read_chain.proofs.MatchLaws.{ended, up}
use Rattle.read_chain.proofs.chain.chain_names.Goals as goal

pub returns-in-Ended : goal.returns-in-Ended
returns-in-Ended c =
    let one : c.args.table.count - c.loop.counter ≡ suc (c.args.table.count - (c.loop.counter + 1)) = omega arith in
    ended _ _ _ _ c.loop.invariant one c.match_item.ensures c.in-Ended.is

pub loop-preserved : goal.loop-preserved
loop-preserved c = up _ _ _ _ c.loop.invariant (omega arith) c.match_item.ensures c.in-Rest.is
