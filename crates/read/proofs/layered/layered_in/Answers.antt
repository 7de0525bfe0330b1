-- `read::layered::layered_in` meets its contract: 8 is the owner's; then what the owner's table answers is told, but for 12.
use native.Mathlib.Omega.{arith}
use mathlib.Core.Path.{◌≡◌, refl, sym, ◌∙◌}
use Rattle.read_find.specs.Find.{manner_of}
use Rattle.read_find.proofs.FindLaws.{found_below}
use Rattle.read.proofs.LookupLaws.{value_in, looked_bad, looked_none, looked_some}
use Rattle.read.proofs.LayeredLaws.{points, refuses, misses}
use Rattle.read.proofs.layered.layered_in.Goals as goal
use Rattle.read.proofs.layered.layered_in.Goals.{in-None, in-Some}

pub returns-then-not-is_utf8 : goal.returns-then-not-is_utf8
returns-then-not-is_utf8 c =
    refuses _ (looked_bad _ _ _ _ _ (sym c.is_utf8.ensures ∙ c.if-not-is_utf8.true) c.first_bad.ensures) refl refl (λ e. omega (arith, e))

pub find_item-requires : goal.find_item-requires
find_item-requires c = (c.requires, sym c.is_utf8.ensures ∙ c.if-not-is_utf8.false)

pub item_at-requires : goal.item_at-requires
item_at-requires c = (c.requires, found_below _ _ _ _ c.find_item.ensures c.in-Some.is)

pub lookup_under-requires : goal.lookup_under-requires
lookup_under-requires c = sym c.is_utf8.ensures ∙ c.if-not-is_utf8.false

pub returns-then-number_of-eq12 : goal.returns-then-number_of-eq12
returns-then-number_of-eq12 c =
    let text = sym c.is_utf8.ensures ∙ c.if-not-is_utf8.false in
    let own : c.match-find_item.own ≡ value_in (manner_of c.args.omanner) c.args.owner.now c.args.table c.args.key.now =
    elim c.match-find_item.branch [
      | in-None w ↦ looked_none _ _ _ _ _ text c.find_item.ensures w.in-None.is w.own-is
      | in-Some w ↦ looked_some _ _ _ _ _ text c.find_item.ensures w.in-Some.is w.item_at.ensures (w.own-is ∙ w.value_of-own.ensures)
    ]
    in
    misses _ own c.in-Err.is c.number_of.ensures c.if-number_of-eq12.true c.lookup_under.ensures

pub returns-in-Ok : goal.returns-in-Ok
returns-in-Ok c =
    let text = sym c.is_utf8.ensures ∙ c.if-not-is_utf8.false in
    let own : c.match-find_item.own ≡ value_in (manner_of c.args.omanner) c.args.owner.now c.args.table c.args.key.now =
    elim c.match-find_item.branch [
      | in-None w ↦ looked_none _ _ _ _ _ text c.find_item.ensures w.in-None.is w.own-is
      | in-Some w ↦ looked_some _ _ _ _ _ text c.find_item.ensures w.in-Some.is w.item_at.ensures (w.own-is ∙ w.value_of-own.ensures)
    ]
    in
    points _ own c.in-Ok.is

pub returns-else-number_of-eq12 : goal.returns-else-number_of-eq12
returns-else-number_of-eq12 c =
    let text = sym c.is_utf8.ensures ∙ c.if-not-is_utf8.false in
    let own : c.match-find_item.own ≡ value_in (manner_of c.args.omanner) c.args.owner.now c.args.table c.args.key.now =
    elim c.match-find_item.branch [
      | in-None w ↦ looked_none _ _ _ _ _ text c.find_item.ensures w.in-None.is w.own-is
      | in-Some w ↦ looked_some _ _ _ _ _ text c.find_item.ensures w.in-Some.is w.item_at.ensures (w.own-is ∙ w.value_of-own.ensures)
    ]
    in
    refuses _ own c.in-Err.is c.number_of.ensures c.if-number_of-eq12.false
