-- `check_table::check::explain` meets its contract: rule 1 is answered by what the key measures.
use Rattle.std.specs.Prelude.{ℕ}
use mathlib.Core.Path.{sym, ap, ◌∙◌}
use Rattle.check_rules.specs.declared.checked.Checked.{Checked}
use Rattle.check_rules.proofs.RuleLaws.{explained_other, explained-refused, explained_sized}
use Rattle.check_table.proofs.check.explain.Goals as goal

pub returns-in-Err : goal.returns-in-Err
returns-in-Err c = explained-refused _ _ _ _ c.if-rule-eq1.true (sym c.key_size.ensures ∙ c.in-Err.is)

pub returns-in_default : goal.returns-in_default
returns-in_default c =
    ap (λ (n : ℕ). Checked.Broken n c.args.item) c.if-rule-eq1.true
    ∙ explained_sized _ _ _ _ c.if-rule-eq1.true (sym c.key_size.ensures ∙ c.in_default.is)

pub returns-else-rule-eq1 : goal.returns-else-rule-eq1
returns-else-rule-eq1 c = explained_other _ _ _ _ c.if-rule-eq1.false
