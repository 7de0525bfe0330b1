-- `build_rules::guest::held_once` meets its contract. The invariant: the flags are of the tables that the items passed hold, and no table is held by two of them.
use Rattle.build_rules.proofs.ValidLaws.{guest_low, met_none, met_pass, met_mark, once_pass, once_twice, once_first}
use Rattle.build_rules.specs.Valid.{held_once}
use Rattle.words.proofs.BelowLaws.{all_fails, all_turn}
use Rattle.words.specs.Below.{all_below}
use lib.ListN.{length-set}
use mathlib.Core.Path.{refl, sym, ap, ◌∙◌}
use lib.ListN.{length}
use Rattle.build_rules.proofs.guest.held_once.Goals.{then-item_word-eq-TABLE_KIND+else-met-guest, else-item_word-eq-TABLE_KIND}
use Rattle.build_rules.proofs.guest.held_once.Goals as goal

pub loop-i-init : goal.loop-i-init
unfolding all_below
loop-i-init c = (refl, refl, met_none c.args.words.now)

pub returns-then-met-guest : goal.returns-then-met-guest
returns-then-met-guest c =
    let a = c.args in
    let at = c.loop-i in
    let own = c.if-item_word-eq-TABLE_KIND.true in
    let low = guest_low _ c.requires.2 _ _ _ c.loop-i-test.true c.item_word.ensures own c.item_word-guest.ensures in
    sym (all_fails (held_once a.words.now) _ _ c.loop-i-test.true
    (once_twice a.words.now at.i _ c.item_word.ensures own _ c.item_word-guest.ensures
    (sym (at.invariant.2 c.item_word-guest.result low) ∙ c.if-met-guest.true)))

pub loop-i-preserved : goal.loop-i-preserved
loop-i-preserved c =
    let a = c.args in
    let at = c.loop-i in
    elim c.if-item_word-eq-TABLE_KIND.branch [
      | then-item_word-eq-TABLE_KIND+else-met-guest w ↦
          let own = w.if-item_word-eq-TABLE_KIND.true in
          let low = guest_low _ c.requires.2 _ _ _ c.loop-i-test.true c.item_word.ensures own w.item_word-guest.ensures in (
            ap length w.met-is ∙ length-set _ _ _ ∙ at.invariant.0,
            all_turn (held_once a.words.now) at.i at.invariant.1
                (once_first a.words.now at.i _ c.item_word.ensures own _ w.item_word-guest.ensures
                (sym (at.invariant.2 w.item_word-guest.result low) ∙ w.if-met-guest.false)),
            rw w.met-is (met_mark a.words.now at.i _ c.item_word.ensures own _ w.item_word-guest.ensures at.met at.invariant.0 low at.invariant.2),
          )
      | else-item_word-eq-TABLE_KIND w ↦
          let other = w.if-item_word-eq-TABLE_KIND.false in (
            ap length w.met-is ∙ at.invariant.0,
            all_turn (held_once a.words.now) _ at.invariant.1 (once_pass _ _ _ c.item_word.ensures other),
            rw w.met-is (met_pass a.words.now at.i _ c.item_word.ensures other at.met at.invariant.2),
          )
    ]
