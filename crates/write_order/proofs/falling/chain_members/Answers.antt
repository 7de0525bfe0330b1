-- `write_order::falling::chain_members` meets its contract. The invariant: the members before place k are chained, and all but the links is as it was.
use mathlib.Core.Path.{◌≡◌, sym, ap, ◌∙◌}
use mathlib.Core.List.{List}
use Prim.Native.Nat.{ℕ, ◌+◌, ◌≤◌, ◌<◌, ◌%◌}
use native.Mathlib.Nat.{mod-lt}
use native.Mathlib.Numerals.{add-one}
use native.Mathlib.Omega.{arith}
use lib.ListN.{length, get_or}
use Rattle.key_hash.specs.declared.hash.Form.{Form}
use Rattle.layout.specs.Limits.{most_items}
use Rattle.model.specs.Table.{times}
use Rattle.build_memory.specs.Memory.{least_words, key_of}
use Rattle.write_order.specs.Key.{Known}
use Rattle.write_order.specs.Items.{hash_for}
use Rattle.write_order.specs.Chain.{Bounded, Placed, ButLinks, links_of, chain_of}
use Rattle.write_order.proofs.KeyLaws.{known_at}
use Rattle.write_order.proofs.LinkLaws.{links_long, but_none, but_then, but_key, but_hash}
use Rattle.write_order.proofs.BucketLaws.{chain_most, chained_start, chained_more}
use Rattle.write_order.proofs.falling.chain_members.Invariants.{Chaining}
use Rattle.write_order.proofs.falling.chain_members.Goals as goal

-- one turn, for the item at place k
module _ {form : Form} {ws₀ ar members ws heads : List ℕ} {k : ℕ} (known : Known ws₀ members) (once : (x : ℕ) → times x members ≤ 1)
    (few : length members ≤ most_items) (s : Chaining form ws₀ ar members ws heads k) (more : k < length members) (long : length ws ≡ length ws₀)
    (room : length members ≤ length heads) where
  item-small : get_or members k 0 < most_items
  item-small = (known_at ws₀ members known k more).1

  room-words : least_words ≤ length ws
  room-words = omega (arith, (known_at ws₀ members known k more).0)

  bucket-small : (hash : ℕ) → hash % length members < length members
  bucket-small hash = mod-lt hash (omega arith)

  bounded : (b : ℕ) → b < length members → Bounded (links_of ws) (get_or heads b 0)
  bounded b l = record {
    items = chain_of form ws₀ ar members k b;
    chain = s.chained.chain b l;
    few = omega (arith, chain_most form ws₀ ar members k b);
  }

  turn : {hash : ℕ} {ws' heads' : List ℕ} → hash ≡ hash_for form ws ar (get_or members k 0) → ButLinks ws ws'
      → Placed (key_of ws ar) (links_of ws) heads (hash % length members) (get_or members k 0) (links_of ws') heads' → Chaining form ws₀ ar members ws' heads' (k + 1)
  unfolding Known
  turn {hash} {ws'} {heads'} is but placed = record {
    but = but_then ws₀ ws ws' s.but but;
    chained = rw add-one (chained_more form ws₀ ar members k heads (links_of ws) (links_of ws') heads' (key_of ws ar) (hash % length members) more (links_long ws room-words)
        once known.1 (λ x l. but_key ws₀ ws ar s.but x l)
        (ap (λ (h : ℕ). h % length members) (sym (is ∙ but_hash ws₀ ws ar s.but form (get_or members k 0) item-small)))
        (omega (arith, bucket-small hash)) s.chained (bucket-small hash) placed);
  }

pub loop-i-init : goal.loop-i-init
loop-i-init c =
    let a = c.args in
    record {
      but = but_none a.words.now;
      chained = chained_start a.form a.words.now a.arena.now a.members.now a.heads.now (links_of a.words.now) c.requires.members_len_bound.1 c.requires.empty.0 c.requires.empty.1;
    }

pub hash_of-requires : goal.hash_of-requires
hash_of-requires c =
    let r = c.requires in
    let room : length c.args.members.now ≤ length c.loop-i.heads = omega arith in
    let i = c.loop-i.invariant in
    (room-words r.known.0 r.known.1 r.members_len_bound.0 i c.loop-i-test.true c.loop-i.auto.words room, item-small r.known.0 r.known.1 r.members_len_bound.0 i c.loop-i-test.true c.loop-i.auto.words room)

pub chain_item-requires : goal.chain_item-requires
chain_item-requires c =
    let r = c.requires in
    let room : length c.args.members.now ≤ length c.loop-i.heads = omega arith in
    let i = c.loop-i.invariant in
    let small = bucket-small r.known.0 r.known.1 r.members_len_bound.0 i c.loop-i-test.true c.loop-i.auto.words room c.hash_of.result in
    record {
      least_words_in_bounds = (room-words r.known.0 r.known.1 r.members_len_bound.0 i c.loop-i-test.true c.loop-i.auto.words room, item-small r.known.0 r.known.1 r.members_len_bound.0 i c.loop-i-test.true c.loop-i.auto.words room, omega arith);
      bounded = bounded r.known.0 r.known.1 r.members_len_bound.0 i c.loop-i-test.true c.loop-i.auto.words room _ small;
    }

pub loop-i-preserved : goal.loop-i-preserved
loop-i-preserved c =
    let r = c.requires in
    let room : length c.args.members.now ≤ length c.loop-i.heads = omega arith in
    turn r.known.0 r.known.1 r.members_len_bound.0 c.loop-i.invariant c.loop-i-test.true c.loop-i.auto.words room c.hash_of.ensures c.chain_item.ensures.but_links c.chain_item.ensures.placed
