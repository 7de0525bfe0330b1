-- `build_rules::judge::items_valid` meets its contract. The invariant: the items that were passed keep the rules.
use Rattle.build_rules.specs.Valid.{item_valid}
use Rattle.words.proofs.BelowLaws.{all_fails}
use mathlib.Core.Path.{sym, ◌∙◌}
use Rattle.build_rules.proofs.judge.items_valid.Goals as goal

pub returns-then-not-item_valid : goal.returns-then-not-item_valid
returns-then-not-item_valid c =
    let a = c.args in
    sym (all_fails (item_valid a.words.now a.arena.now) _ _ c.loop-i-test.true (sym c.item_valid.ensures ∙ c.if-not-item_valid.true))
