-- The document's number and values of the check's answer, as they cross to C.
use Rattle.check_rules.specs.declared.checked.Checked.{Checked}
use Rattle.check_rules.specs.Answer.{checked_number, checked_rule, checked_item, checked_why, checked_at}
use Rattle.answers.specs.declared.checking.GvdbCheck.{GvdbCheck}

unfoldable pub checked_answer : Checked → GvdbCheck
checked_answer checked = record {
  number = checked_number checked;
  rule = checked_rule checked;
  item = checked_item checked;
  why = checked_why checked;
  at = checked_at checked;
}
