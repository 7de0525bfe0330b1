-- `check_rules::survey::survey_children` meets its contract: the invariant says that the first `k` children are good and have their bits.
use mathlib.Core.Path.{◌≡◌}
use mathlib.Core.Bool.{true}
use Rattle.words.specs.Below.{all_below}
use Rattle.check_rules.specs.Rules.{child_good, among}
use Rattle.check_rules.specs.Survey.{Surveying}
use Rattle.check_rules.proofs.survey.survey_children.Given as goal

abbrev pub invariant-loop-k : goal.invariant-loop-k
invariant-loop-k l =
    (all_below (child_good l.file l.table l.index l.from) l.k ≡ true) × Surveying l.file l.table l.index (among l.file l.from l.k) l.initial.bits l.bits true
