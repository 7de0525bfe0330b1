-- `check_table::check::broken_rule` meets its contract: each return is a rule of the cascade; the survey stopped where rule 5 is broken first.
use mathlib.Core.Path.{sym, ◌∙◌}
use Rattle.check_rules.proofs.RuleLaws.{breaks_key, breaks_3, breaks_4, breaks_5, breaks_6, breaks_none}
use Rattle.check_rules.proofs.SurveyLaws.{five_fails, five_holds}
use Rattle.check_table.proofs.check.broken_rule.Goals as goal

pub returns-then-key-ne0 : goal.returns-then-key-ne0
returns-then-key-ne0 c = breaks_key _ _ _ _ c.key_rule-key.ensures c.if-key-ne0.true

pub returns-then-not-kind_known : goal.returns-then-not-kind_known
returns-then-not-kind_known c =
    breaks_3 _ _ _ _ c.key_rule-key.ensures c.if-key-ne0.false c.item_at-item.ensures (sym c.kind_known.ensures ∙ c.if-not-kind_known.true)

pub returns-then-not-value_opens : goal.returns-then-not-value_opens
returns-then-not-value_opens c =
    breaks_4 _ _ _ _ c.key_rule-key.ensures c.if-key-ne0.false c.item_at-item.ensures (sym c.kind_known.ensures ∙ c.if-not-kind_known.false)
    (sym c.value_opens.ensures ∙ c.if-not-value_opens.true)

pub returns-then-index-stop : goal.returns-then-index-stop
returns-then-index-stop c =
    breaks_5 _ _ _ _ c.key_rule-key.ensures c.if-key-ne0.false c.item_at-item.ensures (sym c.kind_known.ensures ∙ c.if-not-kind_known.false) (sym c.value_opens.ensures ∙ c.if-not-value_opens.false)
    (five_fails _ _ c.requires.survey c.requires.in_file.1 c.item_at-item.ensures c.if-index-stop.true (sym c.value_opens.ensures ∙ c.if-not-value_opens.false))

pub returns-then-not-parent_good : goal.returns-then-not-parent_good
returns-then-not-parent_good c =
    breaks_6 _ _ _ _ c.key_rule-key.ensures c.if-key-ne0.false c.item_at-item.ensures (sym c.kind_known.ensures ∙ c.if-not-kind_known.false) (sym c.value_opens.ensures ∙ c.if-not-value_opens.false)
    (five_holds _ _ c.requires.survey c.requires.in_file.1 c.item_at-item.ensures c.requires.in_file.2 c.if-index-stop.false (sym c.value_opens.ensures ∙ c.if-not-value_opens.false))
    (sym c.parent_good.ensures ∙ c.if-not-parent_good.true)

pub returns : goal.returns
returns c =
    breaks_none _ _ _ _ c.key_rule-key.ensures c.if-key-ne0.false c.item_at-item.ensures (sym c.kind_known.ensures ∙ c.if-not-kind_known.false) (sym c.value_opens.ensures ∙ c.if-not-value_opens.false)
    (five_holds _ _ c.requires.survey c.requires.in_file.1 c.item_at-item.ensures c.requires.in_file.2 c.if-index-stop.false (sym c.value_opens.ensures ∙ c.if-not-value_opens.false))
    (sym c.parent_good.ensures ∙ c.if-not-parent_good.false)
