-- The indices of a table's items, for every rule for a byte: each item has exactly one index, an index lies in the run of its item's
-- bucket, and a run reads in descending key order.
use mathlib.Core.Path.{◌≡◌, refl, sym, ap, ◌∙◌}
use mathlib.Core.Bool.{Bool, true, false}
use mathlib.Core.List.{List, [], ◌∷◌, map}
use Prim.Native.Nat.{ℕ, zero, suc, ◌%◌, ◌≤◌, ◌<◌}
use native.Mathlib.Omega.{arith}
use lib.ListN.{length, get_or, length-map}
use Rattle.key_hash.specs.Hash.{hash_by}
use Rattle.key_order.specs.Order.{precedes}
use Rattle.key_order.proofs.OrderLaws.{total}
use Rattle.model.specs.Table.{Rows, times, Has}
use Rattle.image.specs.Index.{key_order, hashes_of, bucket_of, by_bucket, bucket_start, by_index, item_of, index_in, laid_index}
use Rattle.image.specs.Indexing.{Each, Indexing}
use Rattle.image.proofs.TimesLaws.{times_some, offset_once, Stands, index_stands}
use Rattle.image.proofs.OrderLaws.{length_order, times_order, order_ascends, ascends_at}
use Rattle.image.proofs.RunLaws.{index_bucket, indexed_each, indices_descend, start-most}

-- an element of a list made one by one
pub get_or_made : (f : ℕ → ℕ) (l : List ℕ) (k : ℕ) → k < length l → get_or (map f l) k 0 ≡ f (get_or l k 0)
get_or_made f [] k h = absurd (omega arith)
get_or_made f (x ∷ l) zero h = refl
get_or_made f (x ∷ l) (suc k) h = get_or_made f l k (omega arith)

-- where each rank stands once in a list, so does each item in the list of their items
numbering_both : (members order l : List ℕ) → length order ≡ length members → ((x : ℕ) → times x order ≡ times x members) → ((x : ℕ) → times x members ≤ 1)
    → Each (length members) l → Indexing members (map (λ (q : ℕ). get_or order q 0) l)
numbering_both members order l size same one b = record {
  size = length-map l (λ (q : ℕ). get_or order q 0) ∙ b.size;
  has = λ k h. rw (made k h) (rw (same (get_or order (get_or l k 0) 0)) at (times_some (get_or order (get_or l k 0) 0) order (get_or l k 0) (omega (arith, b.within k h)) refl));
  once = λ j k g h e. b.once j k g h
      (offset_once order (λ x. rw (same x) (one x)) (get_or l j 0) (get_or l k 0) (omega (arith, b.within j g)) (omega (arith, b.within k h)) (sym (made j g) ∙ e ∙ made k h));
  all = λ x h. let s = index_stands order x (rw (same x) h) in
      let q : index_in order x < length members = omega (arith, s.within) in
      let k = b.place (index_in order x) in
      times_some x (map (λ (q : ℕ). get_or order q 0) l) k
      (omega (arith, b.placed (index_in order x) q, length-map l (λ (q : ℕ). get_or order q 0), b.size))
      (made k (b.placed (index_in order x) q) ∙ ap (λ (q : ℕ). get_or order q 0) (b.stands (index_in order x) q) ∙ s.is);
}
  where
    made : (k : ℕ) → k < length members → get_or (map (λ (q : ℕ). get_or order q 0) l) k 0 ≡ get_or order (get_or l k 0) 0
    made k h = get_or_made (λ (q : ℕ). get_or order q 0) l k (omega (arith, b.size))

module _ (rule : ℕ → ℕ) (table : Rows) where
  pub length_hashes : length (hashes_of rule table) ≡ length table.members
  unfolding hashes_of
  length_hashes = length-map (key_order table) (λ (i : ℕ). hash_by rule (table.key i)) ∙ length_order table

  -- the hash of a rank
  pub hash_at : (place : ℕ) → place < length table.members → get_or (hashes_of rule table) place 0 ≡ hash_by rule (table.key (get_or (key_order table) place 0))
  unfolding hashes_of
  hash_at place l = get_or_made (λ (i : ℕ). hash_by rule (table.key i)) (key_order table) place (omega (arith, length_order table))

  pub ranks_each : Each (length table.members) (by_bucket (hashes_of rule table))
  ranks_each = rw length_hashes at (indexed_each (hashes_of rule table))

  -- the item at an index, by its rank
  pub item_at_lem : (k : ℕ) → k < length table.members → item_of rule table k ≡ get_or (key_order table) (get_or (by_bucket (hashes_of rule table)) k 0) 0
  unfolding item_of by_index
  item_at_lem k l = get_or_made (λ (q : ℕ). get_or (key_order table) q 0) (by_bucket (hashes_of rule table)) k (omega (arith, ranks_each.size))

  pub length-by_index : length (by_index rule table) ≡ length table.members
  unfolding by_index
  length-by_index = length-map (by_bucket (hashes_of rule table)) (λ (q : ℕ). get_or (key_order table) q 0) ∙ ranks_each.size

  -- a bucket's word is at most the item count
  pub first_most : (b : ℕ) → bucket_start (hashes_of rule table) b ≤ length table.members
  first_most b = rw length_hashes at (start-most (hashes_of rule table) b)

  -- the bucket of the rank at an index is its item's hash modulo the item count
  pub item_bucket : (k : ℕ) → k < length table.members
      → bucket_of (hashes_of rule table) (get_or (by_bucket (hashes_of rule table)) k 0) ≡ hash_by rule (table.key (item_of rule table k)) % length table.members
  unfolding bucket_of
  item_bucket k l =
      let q = get_or (by_bucket (hashes_of rule table)) k 0 in
      rw (item_at_lem k l, hash_at q (ranks_each.within k l)) (ap (λ (n : ℕ). hash_by rule (table.key (get_or (key_order table) q 0)) % n) length_hashes)

  -- an index lies in the run of its item's bucket: from the bucket's word up to the next bucket's
  pub run-from : (k : ℕ) → k < length table.members → bucket_start (hashes_of rule table) (hash_by rule (table.key (item_of rule table k)) % length table.members) ≤ k
  unfolding bucket_start
  run-from k l = rw (item_bucket k l) at (index_bucket (hashes_of rule table) k (omega (arith, length_hashes))).from

  pub run_to : (k : ℕ) → k < length table.members → k < bucket_start (hashes_of rule table) (suc (hash_by rule (table.key (item_of rule table k)) % length table.members))
  unfolding bucket_start
  run_to k l = rw (item_bucket k l) at (index_bucket (hashes_of rule table) k (omega (arith, length_hashes))).to

  -- ---- runs in descending key order

  -- of two indices of one bucket the later one's item stands earlier in the key order
  ranks_descend : (j k : ℕ) → j < k → k < length table.members
      → hash_by rule (table.key (item_of rule table j)) % length table.members ≡ hash_by rule (table.key (item_of rule table k)) % length table.members
      → get_or (by_bucket (hashes_of rule table)) k 0 < get_or (by_bucket (hashes_of rule table)) j 0
  ranks_descend j k less l same =
      indices_descend (hashes_of rule table) j k less (omega (arith, length_hashes)) (item_bucket j (omega arith) ∙ same ∙ sym (item_bucket k l))

  -- so its key does not come behind
  pub run_not_ascends : (j k : ℕ) → j < k → k < length table.members
      → hash_by rule (table.key (item_of rule table j)) % length table.members ≡ hash_by rule (table.key (item_of rule table k)) % length table.members
      → precedes (table.key (item_of rule table j)) (table.key (item_of rule table k)) ≡ false
  run_not_ascends j k less l same =
      rw (item_at_lem j (omega arith), item_at_lem k l)
      (ascends_at table (key_order table) (order_ascends table) (get_or (by_bucket (hashes_of rule table)) k 0) (get_or (by_bucket (hashes_of rule table)) j 0)
      (ranks_descend j k less l same) (omega (arith, length_order table, ranks_each.within j (omega arith))))

  -- ---- each item has exactly one index

  module _ (one : (x : ℕ) → times x table.members ≤ 1) where
    pub numbering : Indexing table.members (by_index rule table)
    unfolding by_index
    numbering = numbering_both table.members (key_order table) (by_bucket (hashes_of rule table)) (length_order table) (times_order table) one ranks_each

    pub item_within : (k : ℕ) → k < length table.members → Has table.members (item_of rule table k)
    unfolding item_of
    item_within k l = numbering.has k l

    pub item_once : (j k : ℕ) → j < length table.members → k < length table.members → item_of rule table j ≡ item_of rule table k → j ≡ k
    unfolding item_of
    item_once j k a b e = numbering.once j k a b e

    item_stands : (i : ℕ) → Has table.members i → Stands (by_index rule table) i
    item_stands i h = index_stands (by_index rule table) i (numbering.all i h)

    pub index_within : (i : ℕ) → Has table.members i → laid_index rule table i < length table.members
    unfolding laid_index
    index_within i h = omega (arith, numbering.size, (item_stands i h).within)

    -- the item at an item's index is the item, and the index of the item at an index is that index
    pub item_index_lem : (i : ℕ) → Has table.members i → item_of rule table (laid_index rule table i) ≡ i
    unfolding item_of laid_index
    item_index_lem i h = (item_stands i h).is

    pub index_item : (k : ℕ) → k < length table.members → laid_index rule table (item_of rule table k) ≡ k
    index_item k l =
        item_once (laid_index rule table (item_of rule table k)) k (index_within (item_of rule table k) (item_within k l)) l (item_index_lem (item_of rule table k) (item_within k l))

    -- where keys differ, a run reads in descending key order
    pub run_descends : ((i j : ℕ) → Has table.members i → Has table.members j → table.key i ≡ table.key j → i ≡ j) → (j k : ℕ) → j < k → k < length table.members
        → hash_by rule (table.key (item_of rule table j)) % length table.members ≡ hash_by rule (table.key (item_of rule table k)) % length table.members
        → precedes (table.key (item_of rule table k)) (table.key (item_of rule table j)) ≡ true
    run_descends distinct j k less l same = by (precedes (table.key (item_of rule table k)) (table.key (item_of rule table j))) refl
      where
        by : (t : Bool) → precedes (table.key (item_of rule table k)) (table.key (item_of rule table j)) ≡ t → precedes (table.key (item_of rule table k)) (table.key (item_of rule table j)) ≡ true
        by true e = e
        by false e =
            let equal : table.key (item_of rule table j) ≡ table.key (item_of rule table k) = total (table.key (item_of rule table j)) (table.key (item_of rule table k)) (run_not_ascends j k less l same) e in
            let q : j ≡ k = item_once j k (omega arith) l (distinct (item_of rule table j) (item_of rule table k) (item_within j (omega arith)) (item_within k l) equal) in
            absurd (omega arith)
