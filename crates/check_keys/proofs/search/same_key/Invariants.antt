-- `check_keys::search::same_key` meets its contract: the invariant is `Comparing`, with the steps that are left.
use Prim.Native.Nat.{◌-◌}
use Rattle.read_chain.specs.Chain.{key_of}
use Rattle.check_hash.specs.Key.{bytes_of}
use Rattle.check_keys.proofs.SameLaws.{Comparing}
use Rattle.check_keys.proofs.search.same_key.Given as goal

abbrev pub invariant-loop : goal.invariant-loop
invariant-loop l =
    Comparing l.file l.table l.at (bytes_of (key_of l.file l.table l.table.count l.index)) l.here l.now_at (l.table.count - l.counter)
