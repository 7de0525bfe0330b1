-- The cycle of `write::empty::has_empty` and `write::empty::item_empty` meets both contracts: what each read and each call asks, what each return gives, and the loop's invariant.
use Rattle.std.proofs.Common.{ℕ, ◌-◌, ◌≡◌, ◌≤◌, ◌<◌, true, List, length, sym, ◌∙◌, arith}
use Rattle.layout.specs.Limits.{most_items}
use Rattle.build_memory.specs.Memory.{least_words, item_total}
use Rattle.build_rules.specs.Valid.{fully_valid}
use Rattle.write_slots.proofs.StateLaws.{fully_valid_lem}
use Rattle.write.proofs.EmptyLaws.{empty_own, empty_plain, empty_held_lem, slot_at, slot_in, slots_few, found_none, found_turn, empty_end, empty_hit, empty_nowhere}
use Rattle.write.proofs.empty.+has_empty_item_empty.Goals as goal

-- the words hold each item
held : (ws ar : List ℕ) (i : ℕ) → fully_valid ws ar ≡ true → i < item_total ws → (least_words ≤ length ws) × (i < most_items)
held ws ar i ok h = let s = (fully_valid_lem ws ar ok).valid in (s.long, omega (arith, s.items))

pub has_empty-returns-then-depth-eq0 : goal.has_empty-returns-then-depth-eq0
has_empty-returns-then-depth-eq0 t c = let a = c.args in empty_nowhere a.words.now a.arena.now a.depth a.table c.if-depth-eq0.true

pub has_empty-loop-k-init : goal.has_empty-loop-k-init
has_empty-loop-k-init t c =
    let p = c.requires in
    let r = fully_valid_lem _ _ p.arena_value in
    record { few = slots_few r p.rostered p.table_lt_most_tables; none = found_none r p.rostered p.table_lt_most_tables (c.args.depth - 1) }

pub has_empty-item_empty-requires : goal.has_empty-item_empty-requires
has_empty-item_empty-requires t c =
    let p = c.requires in
    let r = fully_valid_lem _ _ p.arena_value in
    let is = slot_at r p.rostered p.table_lt_most_tables c.loop-k.k c.loop-k-test.true in
    (omega (arith, c.decreases, c.if-depth-eq0.false), (p.arena_value, (p.rostered, rw is (slot_in r p.rostered p.table_lt_most_tables c.loop-k.k c.loop-k-test.true))))

pub has_empty-returns-then-item_empty : goal.has_empty-returns-then-item_empty
has_empty-returns-then-item_empty t c =
    let p = c.requires in
    let r = fully_valid_lem _ _ p.arena_value in
    let is = slot_at r p.rostered p.table_lt_most_tables c.loop-k.k c.loop-k-test.true in
    empty_hit r p.rostered p.table_lt_most_tables c.args.depth c.loop-k.k _ _ c.if-depth-eq0.false c.loop-k-test.true is c.item_empty.ensures c.if-item_empty.true

pub has_empty-loop-k-preserved : goal.has_empty-loop-k-preserved
has_empty-loop-k-preserved t c =
    let p = c.requires in
    let r = fully_valid_lem _ _ p.arena_value in
    let is = slot_at r p.rostered p.table_lt_most_tables c.loop-k.k c.loop-k-test.true in
    record {
      few = c.loop-k.invariant.few;
      none = found_turn r p.rostered p.table_lt_most_tables (c.args.depth - 1) c.loop-k.k _ _ is c.item_empty.ensures c.if-item_empty.false c.loop-k.invariant.none;
    }

pub has_empty-returns : goal.has_empty-returns
has_empty-returns t c =
    let p = c.requires in
    empty_end (fully_valid_lem _ _ p.arena_value) p.rostered p.table_lt_most_tables c.args.depth c.loop-k.k c.if-depth-eq0.false (omega arith) c.loop-k.invariant.none

pub item_empty-item_word-requires : goal.item_empty-item_word-requires
item_empty-item_word-requires t c = let (long, low) = held _ _ _ c.requires.arena_value c.requires.item_bound in (long, low, omega arith)

pub item_empty-returns-then-item_word-eq0 : goal.item_empty-returns-then-item_word-eq0
item_empty-returns-then-item_word-eq0 t c =
    let a = c.args in
    empty_own a.words.now a.arena.now a.depth a.item _ c.item_word.ensures c.if-item_word-eq0.true

pub item_empty-item_word-requires-2 : goal.item_empty-item_word-requires-2
item_empty-item_word-requires-2 t c = let (long, low) = held _ _ _ c.requires.arena_value c.requires.item_bound in (long, low, omega arith)

pub item_empty-returns-then-item_word-ne-TABLE_KIND : goal.item_empty-returns-then-item_word-ne-TABLE_KIND
item_empty-returns-then-item_word-ne-TABLE_KIND t c =
    let a = c.args in
    empty_plain a.words.now a.arena.now a.depth a.item _ _ c.item_word.ensures c.if-item_word-eq0.false c.item_word-2.ensures c.if-item_word-ne-TABLE_KIND.true

pub item_empty-item_word-guest-requires : goal.item_empty-item_word-guest-requires
item_empty-item_word-guest-requires t c = let (long, low) = held _ _ _ c.requires.arena_value c.requires.item_bound in (long, low, omega arith)

pub item_empty-has_empty-requires : goal.item_empty-has_empty-requires
item_empty-has_empty-requires t c =
    let a = c.args in
    let p = c.requires in
    let r = fully_valid_lem _ _ p.arena_value in
    let g = r.guest a.item p.item_bound (sym c.item_word-2.ensures ∙ c.if-item_word-ne-TABLE_KIND.false) in
    (omega (arith, c.decreases), (p.arena_value, (p.rostered, omega (arith, g, c.item_word-guest.ensures))))

pub item_empty-returns : goal.item_empty-returns
item_empty-returns t c =
    let a = c.args in
    empty_held_lem a.words.now a.arena.now a.depth a.item _ _ c.item_word.ensures c.if-item_word-eq0.false c.item_word-2.ensures c.if-item_word-ne-TABLE_KIND.false _ _ c.item_word-guest.ensures c.has_empty.ensures
