-- `check_table::check::check_surveyed` meets its contract: what the search has still to say from here is what it had to say from the start.
use mathlib.Core.Path.{refl, sym, ap, ◌∙◌}
use Rattle.check_rules.specs.Rules.{broken_rule, explained}
use Rattle.check_rules.proofs.RuleLaws.{broken-start, broken_here, broken_later, broken_over}
use Rattle.check_rules.proofs.SurveyLaws.{passes_on}
use borrow.Author.Rules.{rules}
use Rattle.check_table.proofs.check.check_surveyed.Goals as goal

pub loop-at-init : goal.loop-at-init
loop-at-init c = (search rules, broken-start _ _ _)

pub broken_rule-rule-requires : goal.broken_rule-rule-requires
broken_rule-rule-requires c =
    record {
      in_file = (c.requires.in_file, c.loop-at-test.true, c.loop-at.invariant.0);
      survey = c.requires.survey;
    }

pub explain-requires : goal.explain-requires
explain-requires c = (c.requires.in_file, c.loop-at-test.true)

pub returns-then-rule-ne0 : goal.returns-then-rule-ne0
returns-then-rule-ne0 c =
    c.explain.ensures ∙ ap (explained _ _) (broken_here (broken_rule _ _ _) _ _ c.loop-at-test.true c.broken_rule-rule.ensures c.if-rule-ne0.true)
    ∙ c.loop-at.invariant.1

pub loop-at-preserved : goal.loop-at-preserved
loop-at-preserved c =
    let found = c.broken_rule-rule.ensures in (
      passes_on _ _ c.requires.survey c.loop-at-test.true refl _ c.loop-at.invariant.0 (sym found ∙ c.if-rule-ne0.false),
      ap (explained _ _) (broken_later (broken_rule _ _ _) _ _ c.loop-at-test.true found c.if-rule-ne0.false) ∙ c.loop-at.invariant.1,
    )

pub returns : goal.returns
unfolding explained
returns c =
    ap (explained _ _) (sym (broken_over (broken_rule _ _ _) _ _ c.loop-at-test.false)) ∙ c.loop-at.invariant.1
