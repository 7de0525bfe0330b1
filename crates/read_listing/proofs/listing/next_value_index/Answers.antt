-- `read_listing::listing::next_value_index` meets its contract: the next value from here is the next value from the start.
use mathlib.Core.Path.{sym, ◌∙◌}
use borrow.Author.Tests.{eq-eqb, ne_eqb}
use Rattle.words.specs.Choice.{pick}
use Rattle.read_listing.proofs.ListingLaws.{next_turn, next_over}
use Rattle.read_listing.proofs.listing.next_value_index.Goals as goal

pub loop-at-preserved : goal.loop-at-preserved
unfolding pick
loop-at-preserved c =
    sym (next_turn _ _ _ c.item_at-item.ensures c.if-count-at.false ∙ simp (ne_eqb _ _ c.if-item-eq-VALUE_BYTE.false)) ∙ c.loop-at.invariant

pub returns-then-count-at : goal.returns-then-count-at
returns-then-count-at c = sym (next_over _ _ _ c.if-count-at.true) ∙ c.loop-at.invariant

pub returns-then-item-eq-VALUE_BYTE : goal.returns-then-item-eq-VALUE_BYTE
unfolding pick
returns-then-item-eq-VALUE_BYTE c =
    sym (next_turn _ _ _ c.item_at-item.ensures c.if-count-at.false ∙ simp (eq-eqb _ _ c.if-item-eq-VALUE_BYTE.true)) ∙ c.loop-at.invariant
