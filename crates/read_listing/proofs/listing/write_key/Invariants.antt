-- `read_listing::listing::write_key` meets its contract: the invariant is `Writing`, with the steps left.
use Prim.Native.Nat.{◌-◌}
use Rattle.read_listing.proofs.WriteLaws.{Writing}
use Rattle.read_listing.proofs.listing.write_key.Given as goal

abbrev pub invariant-loop : goal.invariant-loop
invariant-loop l = Writing l.file l.table l.index l.initial.out l.at l.end-2 (l.table.count - l.counter) l.out
