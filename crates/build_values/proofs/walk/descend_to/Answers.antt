-- `build_values::walk::descend_to` meets its contract. The invariant: the way from the start is the way from here, and the hash is that of the key
-- up to here.
use Rattle.build_values.proofs.WalkLaws.{further, walked_is, walk_end, walk_miss, walk_block, walk_pass}
use Rattle.build_values.specs.Walk.{descend}
use Rattle.key_order.specs.Prefix.{ends_past}
use Rattle.key_hash.specs.Hash.{plain}
use Rattle.key_hash.proofs.HashLaws.{hash-none, hash_further}
use lib.Seq.{length-take-le}
use native.Mathlib.Omega.{arith}
use mathlib.Core.Path.{refl, sym, ◌∙◌}
use Rattle.build_values.specs.Walk.{descend}
use Rattle.key_order.specs.Prefix.{ends_past}
use Rattle.build_values.proofs.walk.descend_to.Goals as goal

pub loop-table-init : goal.loop-table-init
loop-table-init c = (omega arith, omega arith, refl, sym (hash-none plain c.args.key.now))

pub returns-then-key-e : goal.returns-then-key-e
returns-then-key-e c =
    let a = c.args in
    let whole = walked_is a.key.now (descend a.words.now a.arena.now a.table a.key.now (ends_past a.sep a.key.now 0) 0 0) _ _ _ _ _ c.ended.ensures
    (walk_end a.sep a.key.now c.loop-table.from c.loop-table.invariant.0 _ c.next_end-e.ensures.value a.words.now a.arena.now a.table c.loop-table.parent c.if-key-e.true
    ∙ sym c.loop-table.invariant.2) c.loop-table.invariant.0 c.loop-table.invariant.1 c.loop-table.invariant.3 in
    record { way_value = whole.0; within = whole.1.0; hashed = whole.1.1 }

pub slice_bounds-find_hashed-end : goal.slice_bounds-find_hashed-end
slice_bounds-find_hashed-end c = sym (length-take-le c.next_end-e.result c.args.key.now (omega arith))

pub find_hashed-i-requires : goal.find_hashed-i-requires
find_hashed-i-requires c =
    let a = c.args in
    record {
      least_words_in_bounds = (c.requires.long, c.requires.items);
      hash_value = c.hash_on-further.ensures
          ∙ hash_further plain a.key.now c.loop-table.from c.loop-table.hash c.loop-table.invariant.3 c.next_end-e.result (omega arith);
    }

pub returns-then-n-i : goal.returns-then-n-i
returns-then-n-i c =
    let a = c.args in
    let whole = walked_is a.key.now (descend a.words.now a.arena.now a.table a.key.now (ends_past a.sep a.key.now 0) 0 0) _ _ _ _ _ c.ended-then-n-i.ensures
    (walk_miss a.sep a.key.now c.loop-table.from c.loop-table.invariant.0 _ c.next_end-e.ensures.value a.words.now a.arena.now a.table c.loop-table.parent c.if-key-e.false _
    c.find_hashed-i.ensures.value c.if-n-i.true ∙ sym c.loop-table.invariant.2) c.loop-table.invariant.0 c.loop-table.invariant.1 c.loop-table.invariant.3 in
    record { way_value = whole.0; within = whole.1.0; hashed = whole.1.1 }

pub returns-then-item_word-ne-CONTAINER_KIND : goal.returns-then-item_word-ne-CONTAINER_KIND
returns-then-item_word-ne-CONTAINER_KIND c =
    let a = c.args in
    let whole = walked_is a.key.now (descend a.words.now a.arena.now a.table a.key.now (ends_past a.sep a.key.now 0) 0 0) _ _ _ _ _ c.ended-then-item_word-ne-CONTAINER_KIND.ensures
    (walk_block a.sep a.key.now c.loop-table.from c.loop-table.invariant.0 _ c.next_end-e.ensures.value a.words.now a.arena.now a.table c.loop-table.parent c.if-key-e.false _
    c.find_hashed-i.ensures.value c.if-n-i.false (λ e. c.if-item_word-ne-CONTAINER_KIND.true (c.item_word.ensures ∙ e)) ∙ sym c.loop-table.invariant.2) c.loop-table.invariant.0 c.loop-table.invariant.1 c.loop-table.invariant.3 in
    record { way_value = whole.0; within = whole.1.0; hashed = whole.1.1 }

pub loop-table-smaller : goal.loop-table-smaller
loop-table-smaller c =
    let a = c.args in
    let f = further a.sep a.key.now c.loop-table.from c.loop-table.invariant.0 _ c.next_end-e.ensures.value c.if-key-e.false in
    omega arith

pub loop-table-preserved : goal.loop-table-preserved
loop-table-preserved c =
    let a = c.args in
    let e = c.next_end-e.result in
    let f = further a.sep a.key.now c.loop-table.from c.loop-table.invariant.0 _ c.next_end-e.ensures.value c.if-key-e.false in (
      omega arith,
      omega arith,
      c.loop-table.invariant.2
          ∙ walk_pass a.sep a.key.now c.loop-table.from c.loop-table.invariant.0 _ c.next_end-e.ensures.value a.words.now a.arena.now a.table c.loop-table.parent c.if-key-e.false _
          c.find_hashed-i.ensures.value c.if-n-i.false (sym c.item_word.ensures ∙ c.if-item_word-ne-CONTAINER_KIND.false),
      c.hash_on-further.ensures ∙ hash_further plain a.key.now c.loop-table.from c.loop-table.hash c.loop-table.invariant.3 e (omega arith),
    )
