-- `read_listing::listing::key_size` meets its contract: the invariant is `Measuring`, with the steps left.
use Prim.Native.Nat.{◌-◌}
use Rattle.read_listing.proofs.MeasureLaws.{Measuring}
use Rattle.read_listing.proofs.listing.key_size.Given as goal

abbrev pub invariant-loop : goal.invariant-loop
invariant-loop l = Measuring l.file l.table l.index l.at l.total (l.table.count - l.counter)
