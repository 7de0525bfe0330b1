-- `check_rules::survey::survey_all` meets its contract: the invariant is `Surveyed`.
use Rattle.check_rules.proofs.SurveyLaws.{Surveyed}
use Rattle.check_rules.proofs.survey.survey_all.Given as goal

abbrev pub invariant-loop-at : goal.invariant-loop-at
invariant-loop-at l = Surveyed l.file l.table l.at l.bits
