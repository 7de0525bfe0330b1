-- `write_parts::put::lay_plain` meets its contract, for bytes and for children.
use mathlib.Core.Path.{sym, ◌∙◌}
use Prim.Native.Nat.{◌+◌}
use native.Mathlib.Omega.{arith}
use Rattle.write_parts.proofs.PutLaws.{length-bytes, length_children, bytes_laid, children_laid, child_is}
use Rattle.write_parts.proofs.put.lay_plain.Goals as goal

pub lay_part-requires-clause-size_in_bounds_2 : goal.lay_part-requires-clause-size_in_bounds_2
lay_part-requires-clause-size_in_bounds_2 c =
    let kind = sym c.slot_word-kind.ensures ∙ c.if-kind-eq-VALUE_KIND.true in
    let inside = (c.requires.numbered_fits.slots c.args.slot c.requires.slot_lt_most_items).value kind in
    omega (arith, c.requires.slot_in_bounds, length-bytes c.args.numbered.now c.args.arena.now c.args.slot kind inside, c.slot_word-size.ensures)

pub returns-then-kind-eq-VALUE_KIND : goal.returns-then-kind-eq-VALUE_KIND
returns-then-kind-eq-VALUE_KIND c =
    bytes_laid c.args.numbered.now c.args.arena.now c.args.slot (sym c.slot_word-kind.ensures ∙ c.if-kind-eq-VALUE_KIND.true) c.slot_word-start.ensures c.slot_word-size.ensures
    c.lay_part.ensures

pub lay_words-requires-clause-by_index : goal.lay_words-requires-clause-by_index
lay_words-requires-clause-by_index c =
    let fits = c.requires.numbered_fits in
    let room = (fits.slots c.args.slot c.requires.slot_lt_most_items).children (λ e. c.if-kind-eq-VALUE_KIND.false (c.slot_word-kind.ensures ∙ e)) c.requires.fact in
    let from = c.slot_word-start in
    λ j less. (
      omega (arith, fits.long, room, from.ensures, c.slot_word-size.ensures),
      omega (arith, child_is c.args.numbered.now from.result j, fits.children (from.result + j) (omega (arith, room, from.ensures, c.slot_word-size.ensures))),
    )

pub lay_words-requires-clause-count_in_bounds : goal.lay_words-requires-clause-count_in_bounds
lay_words-requires-clause-count_in_bounds c = omega (arith, c.requires.slot_in_bounds, length_children c.args.numbered.now c.args.arena.now c.args.slot (λ e. c.if-kind-eq-VALUE_KIND.false (c.slot_word-kind.ensures ∙ e)), c.slot_word-size.ensures)

pub returns : goal.returns
returns c =
    children_laid c.args.numbered.now c.args.arena.now c.args.slot (λ e. c.if-kind-eq-VALUE_KIND.false (c.slot_word-kind.ensures ∙ e)) c.slot_word-start.ensures c.slot_word-size.ensures
    c.lay_words.ensures
