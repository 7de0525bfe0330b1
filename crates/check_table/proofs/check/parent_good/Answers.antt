-- `check_table::check::parent_good` meets its contract: where the survey came past the parent, the bit says whether it lists the item.
use Rattle.std.specs.Prelude.{Ok}
use mathlib.Core.Path.{sym, ap, ◌∙◌}
use Rattle.check_rules.proofs.SurveyLaws.{six_bit_set}
use Rattle.check_table.proofs.check.parent_good.Goals as goal

pub returns-in-Ok-Some : goal.returns-in-Ok-Some
returns-in-Ok-Some c =
    c.has_bit.ensures
    ∙ six_bit_set _ _ c.requires.survey c.requires.in_file.1 c.requires.in_file.2 (sym c.parent_of.ensures ∙ c.in-Ok-Some.is ∙ ap Ok c.in-Ok-Some.field-0-is) c.if-parent-stop.true
