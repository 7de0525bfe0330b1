-- `check_rules::survey::survey_container` meets its contract: an item that is no container, or breaks rule 4, lists nothing.
use mathlib.Core.Path.{sym, ◌∙◌, refl}
use native.Mathlib.Omega.{arith}
use Rattle.check_rules.proofs.RuleLaws.{children_other, children_all, lists_other, lists_shut, lists_open, list_room}
use Rattle.check_rules.proofs.ChildLaws.{no_bit, as_listed, five_other, five_shut, five_open}
use Rattle.check_rules.proofs.survey.survey_container.Goals as goal

pub returns-then-item-ne-CONTAINER_BYTE : goal.returns-then-item-ne-CONTAINER_BYTE
returns-then-item-ne-CONTAINER_BYTE c =
    record {
      said = five_other _ _ _ _ (sym (children_other _ _ _ _ c.if-item-ne-CONTAINER_BYTE.true));
      wrote = no_bit _ _ _ _ c.requires.fresh (λ i. lists_other _ i _ c.if-item-ne-CONTAINER_BYTE.true);
    }

pub returns-then-not-value_opens : goal.returns-then-not-value_opens
returns-then-not-value_opens c =
    let shut = sym c.value_opens.ensures ∙ c.if-not-value_opens.true in
    record {
      said = five_shut _ _ _ _ shut;
      wrote = no_bit _ _ _ _ c.requires.fresh (λ i. lists_shut _ i _ c.if-item-ne-CONTAINER_BYTE.false shut);
    }

pub child_count-requires : goal.child_count-requires
child_count-requires c =
    (list_room _ _ c.if-item-ne-CONTAINER_BYTE.false (sym c.value_opens.ensures ∙ c.if-not-value_opens.false)).0

pub survey_children-requires : goal.survey_children-requires
survey_children-requires c =
    let room = list_room _ _ c.if-item-ne-CONTAINER_BYTE.false (sym c.value_opens.ensures ∙ c.if-not-value_opens.false) in
    record {
      in_file = (c.requires.in_file, omega (arith, room.1, c.child_count.ensures));
      fresh = c.requires.fresh;
    }

pub returns : goal.returns
returns c =
    let opens = sym c.value_opens.ensures ∙ c.if-not-value_opens.false in
    let list = c.if-item-ne-CONTAINER_BYTE.false in
    let start = refl in
    let count = c.child_count.ensures in record {
      said = children_all _ _ _ _ list start count c.survey_children.ensures.said ∙ five_open _ _ _ _ opens;
      wrote = as_listed _ _ _ _ _ _ (λ i. lists_open _ i _ list opens start count) c.survey_children.ensures.wrote;
    }
