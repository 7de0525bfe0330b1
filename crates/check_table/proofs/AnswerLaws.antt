-- The numbers of the check's answers: 0 just for a sound table, 40 just where a rule is broken, with the rule and the item; any other is
-- that of opening.
use Rattle.std.specs.Prelude.{Err}
use Prim.Native.Nat.{ℕ}
use mathlib.Core.Path.{◌≡◌, ap, ◌∙◌}
use mathlib.Core.List.{List}
use Rattle.layout.specs.declared.refusal.Refusal.{Refusal}
use Rattle.layout.specs.Refusal.{number, bad_at}
use Rattle.layout.specs.Table.{open_table}
use Rattle.read_chain.specs.Chain.{Joined}
use Rattle.read_listing.specs.Listing.{key_at}
use Rattle.check_rules.specs.Rules.{check_table}
use Rattle.check_rules.specs.Answer.{checked_number, checked_rule, checked_item, checked_why, checked_at}
use Rattle.check_table.specs.Sound.{SoundTable}
use Rattle.check_rules.specs.Broken.{BrokenAt}
use Rattle.check_table.proofs.ExplainLaws.{explained_same}
use Rattle.check_table.proofs.SoundLaws.{passes_exactly_the_sound}
use Rattle.read_find.specs.Find.{Manner}
use Rattle.check_table.proofs.BrokenLaws.{at_broken, names_the_first, refused_as_opening}

module _ (manner : Manner) (file : List ℕ) (start end : ℕ) where
  pub check_0 : SoundTable manner file start end → checked_number (check_table manner file start end) ≡ 0
  unfolding checked_number
  check_0 sound = ap checked_number ((passes_exactly_the_sound manner file start end).1 sound)

  pub check_40 : {broken item : ℕ} → BrokenAt manner file start end broken item
      → (checked_number (check_table manner file start end) ≡ 40) × (checked_rule (check_table manner file start end) ≡ broken) × (checked_item (check_table manner file start end) ≡ item)
  check_40 {broken} {item} b =
      let e = at_broken manner file start end b in
      let same = explained_same file b.table broken item in
      (ap checked_number e ∙ same.number, ap checked_rule e ∙ same.rule, ap checked_item e ∙ same.item)

  -- with rule 1 the number and the offset of what listing the item refuses with, and with no other
  pub check_why : {item : ℕ} {why : Refusal} → BrokenAt manner file start end 1 item → key_at file start end item ≡ Joined.broken why
      → (checked_why (check_table manner file start end) ≡ number why) × (checked_at (check_table manner file start end) ≡ bad_at why)
  unfolding checked_why checked_at
  check_why {item} {why} b key =
      let e = ((names_the_first manner file start end item).1 why).1 (b, key) in
      (ap checked_why e, ap checked_at e)

  pub check_no_why : {broken item : ℕ} → BrokenAt manner file start end broken item → (broken ≡ 1 → ⊥)
      → (checked_why (check_table manner file start end) ≡ 0) × (checked_at (check_table manner file start end) ≡ 0)
  unfolding checked_why checked_at
  check_no_why {broken} {item} b other =
      let e = ((names_the_first manner file start end item).0 broken).1 (b, other) in
      (ap checked_why e, ap checked_at e)

  pub check_opening : {why : Refusal} → open_table file start end ≡ Err why → checked_number (check_table manner file start end) ≡ number why
  unfolding checked_number
  check_opening {why} e = ap checked_number ((refused_as_opening manner file start end why).1 e)
