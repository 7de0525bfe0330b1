-- `build_rules::guest::held_once` meets its contract. The invariant: the flags are of the tables that the items passed hold, and no table is held by two of them.
use Rattle.build_rules.proofs.ValidLaws.{Met}
use Rattle.build_rules.specs.Valid.{held_once}
use Rattle.layout.specs.Limits.{most_tables}
use Rattle.words.specs.Below.{all_below}
use lib.ListN.{length}
use mathlib.Core.Bool.{true}
use mathlib.Core.Path.{◌≡◌}
use Rattle.build_rules.proofs.guest.held_once.Given as goal

abbrev pub invariant-loop-i : goal.invariant-loop-i
invariant-loop-i l = (length l.met ≡ most_tables) × (all_below (held_once l.words) l.i ≡ true) × Met l.words l.met l.i
