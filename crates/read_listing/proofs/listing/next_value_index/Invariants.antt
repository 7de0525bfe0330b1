-- `read_listing::listing::next_value_index` meets its contract: the next value from here is the next value from the start.
use Prim.Native.Nat.{◌-◌}
use mathlib.Core.Path.{◌≡◌}
use Rattle.read_listing.specs.Listing.{next_value}
use Rattle.read_listing.proofs.listing.next_value_index.Given as goal

abbrev pub invariant-loop-at : goal.invariant-loop-at
invariant-loop-at l =
    next_value l.file l.table l.at ≡ next_value l.file l.table l.initial.at

abbrev pub decreases-loop-at : goal.decreases-loop-at
decreases-loop-at l = l.count - l.at
