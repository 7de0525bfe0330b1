-- `check_rules::survey::survey_all` meets its contract: the invariant is `Surveyed`.
use native.Mathlib.Omega.{arith}
use Rattle.check_rules.proofs.SurveyLaws.{survey_start, survey_fresh, survey_over, survey_stop, survey_turn}
use Rattle.check_rules.proofs.survey.survey_all.Goals as goal

pub loop-at-init : goal.loop-at-init
loop-at-init c = survey_start _ _ c.requires.1

pub survey_container-requires : goal.survey_container-requires
survey_container-requires c = record { in_file = c.requires.0; fresh = survey_fresh _ _ c.loop-at.invariant }

pub returns-then-not-survey_container : goal.returns-then-not-survey_container
returns-then-not-survey_container c =
    survey_stop _ _ c.loop-at.invariant c.item_at-item.ensures c.survey_container.ensures.said c.loop-at-test.true (c.if-not-survey_container.true) c.survey_container.ensures.wrote

pub loop-at-preserved : goal.loop-at-preserved
loop-at-preserved c =
    survey_turn _ _ c.loop-at.invariant c.item_at-item.ensures c.survey_container.ensures.said (c.if-not-survey_container.false) c.survey_container.ensures.wrote

pub returns : goal.returns
returns c = survey_over _ _ c.loop-at.invariant c.loop-at-test.false (omega arith)
