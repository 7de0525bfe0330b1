-- `build_rules::judge::items_valid` meets its contract. The invariant: the items that were passed keep the rules.
use Rattle.build_rules.specs.Valid.{item_valid}
use Rattle.words.specs.Below.{all_below}
use mathlib.Core.Bool.{true}
use mathlib.Core.Path.{◌≡◌}
use Rattle.build_rules.proofs.judge.items_valid.Given as goal

abbrev pub invariant-loop-i : goal.invariant-loop-i
invariant-loop-i l = all_below (item_valid l.words l.arena) l.i ≡ true
