-- `check_table::check::check_open` meets its contract: zeros have no bit set.
use Rattle.check_rules.proofs.SurveyLaws.{blank, enough}
use Rattle.check_table.proofs.check.check_open.Goals as goal

pub survey_all-stop-requires : goal.survey_all-stop-requires
survey_all-stop-requires c = (c.requires, blank _ _ 10923 c.requires enough)
