-- The number of document 01 that each answer of the check stands for, with its values.
use Rattle.std.specs.Prelude.{ℕ}
use Rattle.layout.specs.declared.refusal.Refusal.TheVariants.{CheckBroken}
use Rattle.layout.specs.Refusal.{number, bad_at}
use Rattle.check_rules.specs.declared.checked.Checked.{Checked}

-- 40 where a rule is broken; 0 for a table that passes
unfoldable pub checked_number : Checked → ℕ
checked_number Checked.Sound = 0
checked_number (Checked.Broken rule item) = number CheckBroken
checked_number (Checked.Unlisted why item) = number CheckBroken
checked_number (Checked.Refused why) = number why

-- the rule broken, 1 to 6, and the item's index, which are told with 40
unfoldable pub checked_rule : Checked → ℕ
checked_rule Checked.Sound = 0
checked_rule (Checked.Broken rule item) = rule
checked_rule (Checked.Unlisted why item) = 1
checked_rule (Checked.Refused why) = 0

unfoldable pub checked_item : Checked → ℕ
checked_item Checked.Sound = 0
checked_item (Checked.Broken rule item) = item
checked_item (Checked.Unlisted why item) = item
checked_item (Checked.Refused why) = 0

-- the number with which listing the item ends, told with rule 1
unfoldable pub checked_why : Checked → ℕ
checked_why Checked.Sound = 0
checked_why (Checked.Broken rule item) = 0
checked_why (Checked.Unlisted why item) = number why
checked_why (Checked.Refused why) = 0

-- where the stored fragment is bad, told with 9 of the listing
unfoldable pub checked_at : Checked → ℕ
checked_at Checked.Sound = 0
checked_at (Checked.Broken rule item) = 0
checked_at (Checked.Unlisted why item) = bad_at why
checked_at (Checked.Refused why) = 0
