-- `write_slots::numbered::fill_numbered` meets its contract: head, child words and slots make the numbered table of the memory.
use Prim.Native.Nat.{ℕ}
use native.Mathlib.Omega.{arith}
use lib.ListN.{get_or-replicate}
use Rattle.build_memory.specs.Memory.{item_total}
use Rattle.write_slots.proofs.StateLaws.{fully_valid_lem}
use Rattle.write_slots.proofs.TurnLaws.{start_fits}
use Rattle.write_slots.proofs.PlanLaws.{siblings_firsts, numbered_as}
use Rattle.write_slots.proofs.numbered.fill_numbered.Goals as goal

pub bounds-words-3 : goal.bounds-words-3
bounds-words-3 c = omega (arith, (fully_valid_lem _ _ c.requires.arena_value).valid.long)

pub order_siblings-requires-clause-by_index : goal.order_siblings-requires-clause-by_index
order_siblings-requires-clause-by_index c = λ b h. get_or-replicate {A = ℕ} 1026 b (item_total c.args.words.now) 0 h

pub put_children-requires-clause-least_words_in_bounds : goal.put_children-requires-clause-least_words_in_bounds
put_children-requires-clause-least_words_in_bounds c = let s = (fully_valid_lem _ _ c.requires.arena_value).valid in (s.long, s.items)

pub put_slots-requires-clause-firsts : goal.put_slots-requires-clause-firsts
put_slots-requires-clause-firsts c = siblings_firsts _ _ _ (fully_valid_lem _ _ c.requires.arena_value).valid.items c.order_siblings.ensures

pub put_slots-requires-clause-numbered_len : goal.put_slots-requires-clause-numbered_len
put_slots-requires-clause-numbered_len c =
    let a = c.args in
    let s = c.start_numbered.ensures in
    let h = c.put_children.ensures in
    (omega (arith, h.long, s.long), start_fits a.words.now a.arena.now a.roster.now _ _ _ s h)

pub returns : goal.returns
returns c =
    let a = c.args in
    numbered_as a.form a.words.now a.arena.now a.roster.now _ _ _ _ _ (fully_valid_lem _ _ c.requires.arena_value) c.requires.rostered c.order_siblings.ensures c.start_numbered.ensures c.put_children.ensures c.put_slots.ensures
