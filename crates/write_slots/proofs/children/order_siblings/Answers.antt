-- `write_slots::children::order_siblings` meets its contract: ranks in buckets by their parent words are the children in order of creation.
use Prim.Native.Nat.{ℕ}
use mathlib.Core.Path.{sym, ◌∙◌}
use native.Mathlib.Omega.{arith}
use lib.ListN.{take, length-replicate}
use lib.Seq.{length-take-le, get_or-take}
use Rattle.build_memory.specs.Memory.{item_total}
use Rattle.write_order.proofs.ChainLaws.{empty_fresh}
use Rattle.layout.specs.Limits.{most_items}
use Rattle.write_slots.proofs.StateLaws.{fully_valid_lem}
use Rattle.write_slots.proofs.SiblingLaws.{siblings_made}
use Rattle.write_slots.proofs.children.order_siblings.Goals as goal

pub bounds-words-3 : goal.bounds-words-3
bounds-words-3 c = omega (arith, (fully_valid_lem _ _ c.requires.arena_value).valid.long)

pub list_parents-requires : goal.list_parents-requires
list_parents-requires c =
    let s = (fully_valid_lem _ _ c.requires.arena_value).valid in (s.long, s.items, length-replicate {A = ℕ} most_items 0)

pub slice_bounds-hashes-end : goal.slice_bounds-hashes-end
slice_bounds-hashes-end c = omega (arith, (fully_valid_lem _ _ c.requires.arena_value).valid.items, c.list_parents.auto.hashes)

pub slice_bounds-index_by_bucket-end : goal.slice_bounds-index_by_bucket-end
slice_bounds-index_by_bucket-end c =
    sym (length-take-le (item_total c.args.words.now) c.list_parents.new.hashes (omega (arith, (fully_valid_lem _ _ c.requires.arena_value).valid.items, c.list_parents.auto.hashes)))

pub index_by_bucket-requires : goal.index_by_bucket-requires
index_by_bucket-requires c =
    let few = (fully_valid_lem _ _ c.requires.arena_value).valid.items in
    let h = length-take-le (item_total c.args.words.now) c.list_parents.new.hashes (omega (arith, few, c.list_parents.auto.hashes)) in
    (record { few = omega (arith, h, few); in_order = omega (arith, h, few, c.requires.order_len.0); in_firsts = omega (arith, h, few, c.requires.order_len.1) }, omega (arith, h, few, length-replicate {A = ℕ} most_items 4294967295), empty_fresh most_items)

pub returns : goal.returns
returns c =
    let a = c.args in
    let total = item_total a.words.now in
    let right = fully_valid_lem a.words.now a.arena.now c.requires.arena_value in
    let h = length-take-le total c.list_parents.new.hashes (omega (arith, right.valid.items, c.list_parents.auto.hashes)) in
    rw (c.index_by_bucket.ensures.order_after, c.index_by_bucket.ensures.firsts_after) (siblings_made a.words.now a.arena.now right (take total c.list_parents.new.hashes) h (λ q less. get_or-take total c.list_parents.new.hashes q 0 less ∙ c.list_parents.ensures q less) a.order.now a.firsts.now c.requires.order_len.0 c.requires.order_len.1 c.requires.by_index)
