-- `read_chain::chain::chain_names` meets its contract: the invariant is `Climbing`, with the steps that are left.
use Prim.Native.Nat.{◌-◌}
use Rattle.read_chain.proofs.MatchLaws.{Climbing}
use Rattle.read_chain.proofs.chain.chain_names.Given as goal

abbrev pub invariant-loop : goal.invariant-loop
invariant-loop l =
    Climbing l.file l.table l.index l.key l.at l.rest (l.table.count - l.counter)
