-- `check_table::check::check_surveyed` meets its contract: what the search has still to say from here is what it had to say from the start.
use mathlib.Core.Path.{◌≡◌}
use Prim.Native.Nat.{◌-◌, ◌≤◌}
use Rattle.read_find.specs.Find.{manner_of}
use Rattle.check_rules.specs.Rules.{first_broken, broken_rule, explained, check_in}
use Rattle.check_table.proofs.check.check_surveyed.Given as goal

abbrev pub invariant-loop-at : goal.invariant-loop-at
invariant-loop-at l =
    (l.at ≤ l.stop) × (explained l.file l.table (first_broken (broken_rule (manner_of l.manner) l.file l.table) (l.table.count - l.at) l.at) ≡ check_in (manner_of l.manner) l.file l.table)
