-- On tidy memory the search along a chain finds the item of the table with the key, where there is one.
use Prim.Native.Nat.{ℕ, zero, suc, ◌%◌, ◌≤◌, ◌<◌}
use native.Mathlib.Nat.{not-suc-le-zero, mod-lt}
use native.Mathlib.Omega.{arith}
use mathlib.Core.Path.{◌≡◌, refl, sym, ap, ◌∙◌, subst}
use mathlib.Core.Bool.{Bool, true, false}
use mathlib.Core.List.{List}
use borrow.Author.Tests.{eqb-true, eqb-false, eq-eqb, ne_eqb}
use lib.Dec.{eqb}
use lib.ListN.{length}
use Rattle.words.specs.Choice.{pick}
use Rattle.key_hash.specs.Hash.{hash_of}
use Rattle.words.proofs.ChoiceLaws.{both, pick_with}
use Rattle.key_order.specs.Compare.{same_bytes}
use Rattle.key_order.proofs.CompareLaws.{same_equal, same_refl}
use Rattle.build_memory.specs.Memory.{buckets, item_total, item_table, item_hash, item_older, key_size, key_of}
use Rattle.build_memory.specs.Find.{is_item, seek, find_key}
use Rattle.build_memory.proofs.MeaningLaws.{key_length}
use Rattle.layout.specs.Limits.{most_items}
use Rattle.history.specs.Tidy.{last_in, bucket_of, Tidy}

pub false-true : {A : Type 0} → false ≡ true → A
false-true e = absurd (let z : ◌≡◌ {A = ℕ} 0 1 = cc in omega arith)

pub last_cong : (p q : ℕ → ℕ) (b m : ℕ) → ((j : ℕ) → j < m → p j ≡ q j) → last_in p b m ≡ last_in q b m
unfolding last_in pick
last_cong p q b zero h = refl
last_cong p q b (suc m) h =
    ap (λ (x : ℕ). pick (eqb x b) m (last_in p b m)) (h m (omega arith))
    ∙ ap (pick (eqb (q m) b) m) (last_cong p q b m (λ j l. h j (omega arith)))

-- the last below m is not m
last-not : (p : ℕ → ℕ) (b m j : ℕ) → m ≤ j → j ≤ most_items → last_in p b m ≡ j → ⊥
unfolding last_in pick
last-not p b zero j l u e = let f : 4294967295 ≡ j = e in omega arith
last-not p b (suc m) j l u e = by_test (eqb (p m) b) (last-not p b m j (omega arith) u) e
  where
    by_test : (q : Bool) → (last_in p b m ≡ j → ⊥) → pick q m (last_in p b m) ≡ j → ⊥
    by_test true ih f = omega arith
    by_test false ih f = ih f

-- the last below m that passes, or none
unfoldable last_with : (ℕ → Bool) → ℕ → ℕ → ℕ
last_with p none zero = none
last_with p none (suc m) = pick (p m) m (last_with p none m)

with_hit : (p : ℕ → Bool) (none m : ℕ) → last_with p none m < none → p (last_with p none m) ≡ true
unfolding last_with pick
with_hit p none zero h = absurd (omega arith)
with_hit p none (suc m) h = by_test (p m) refl (with_hit p none m) h
  where
    by_test : (q : Bool) → p m ≡ q → (last_with p none m < none → p (last_with p none m) ≡ true) → pick q m (last_with p none m) < none → p (pick q m (last_with p none m)) ≡ true
    by_test true e ih l = e
    by_test false e ih l = ih l

with_miss : (p : ℕ → Bool) (none m : ℕ) → m ≤ none → none ≤ last_with p none m → (i : ℕ) → i < m → p i ≡ false
unfolding last_with pick
with_miss p none zero l h i u = absurd (not-suc-le-zero u)
with_miss p none (suc m) l h i u = by_test (p m) refl (with_miss p none m (omega arith)) h
  where
    by_test : (q : Bool) → p m ≡ q → (none ≤ last_with p none m → (j : ℕ) → j < m → p j ≡ false) → none ≤ pick q m (last_with p none m) → p i ≡ false
    by_test true e ih g = absurd (omega arith)
    by_test false e ih g = by_last (eqb i m) refl
      where
        by_last : (r : Bool) → eqb i m ≡ r → p i ≡ false
        by_last true f = ap p (eqb-true i m f) ∙ e
        by_last false f = let ne = eqb-false i m f in ih g i (omega arith)

with_within : (p : ℕ → Bool) (none m : ℕ) → m ≤ none → last_with p none m ≤ none
unfolding last_with
with_within p none zero h = omega arith
with_within p none (suc m) h =
    pick_with (λ (x : ℕ). x ≤ none) (p m) m (last_with p none m) (λ e. omega arith) (λ e. with_within p none m (omega arith))

module _ (p : ℕ → Bool) (older bucket : ℕ → ℕ) (none b : ℕ) where
  -- down the chain of a bucket that all that pass are in
  seek-last : (n : ℕ) → n ≤ most_items → ((i : ℕ) → i < n → older i ≡ last_in bucket (bucket i) i) → ((i : ℕ) → i < n → p i ≡ true → bucket i ≡ b)
      → seek p older none n (last_in bucket b n) ≡ last_with p none n
  unfolding seek last_in last_with pick
  seek-last zero u o h = refl
  seek-last (suc m) u o h =
      by_bucket_lem (eqb (bucket m) b) refl (p m) refl (seek-last m (omega arith) (λ i l. o i (omega arith)) (λ i l. h i (omega arith)))
    where
      by_bucket_lem : (q : Bool) → eqb (bucket m) b ≡ q → (r : Bool) → p m ≡ r → seek p older none m (last_in bucket b m) ≡ last_with p none m
          → pick (eqb (pick q m (last_in bucket b m)) m) (pick (p m) m (seek p older none m (older m))) (seek p older none m (pick q m (last_in bucket b m))) ≡ pick (p m) m (last_with p none m)
      by_bucket_lem true e r g ih =
          ap (λ (s : Bool). pick s (pick (p m) m (seek p older none m (older m))) (seek p older none m m)) (eq-eqb m m refl)
          ∙ ap (λ (x : ℕ). pick (p m) m (seek p older none m x)) (o m (omega arith) ∙ ap (λ (x : ℕ). last_in bucket x m) (eqb-true (bucket m) b e))
          ∙ ap (pick (p m) m) ih
      by_bucket_lem false e true g ih = absurd (eqb-false (bucket m) b e (h m (omega arith) g))
      by_bucket_lem false e false g ih =
          ap (λ (s : Bool). pick s (pick (p m) m (seek p older none m (older m))) (seek p older none m (last_in bucket b m))) (ne_eqb (last_in bucket b m) m (last-not bucket b m m (omega arith) (omega arith)))
          ∙ ih ∙ sym (ap (λ (s : Bool). pick s m (last_with p none m)) g)

-- ---- the search on tidy memory
module _ (ws ar : List ℕ) (tidy : Tidy ws ar) where
  pub key_size_lem : (i : ℕ) → i < item_total ws → length (key_of ws ar i) ≡ key_size ws i
  key_size_lem i h = key_length ws ar i (omega (arith, tidy.keys i h, tidy.valid-memory.used))

  module _ (t : ℕ) (k : List ℕ) where
    abbrev consistent : ℕ → Bool
    consistent = is_item ws ar t (hash_of k) k

    -- an item that passes has the table, the hash and the key
    pub passes : (i : ℕ) → consistent i ≡ true → (item_table ws i ≡ t) × (item_hash ws i ≡ hash_of k) × (key_of ws ar i ≡ k)
    unfolding is_item
    passes i e =
        let r = both (eqb (item_table ws i) t) _ e in
        let s = both (eqb (item_hash ws i) (hash_of k)) _ r.1 in
        let u = both (eqb (key_size ws i) (length k)) (same_bytes (key_of ws ar i) k) s.1 in
        (eqb-true _ _ r.0, eqb-true _ _ s.0, same_equal (key_of ws ar i) k u.1)

    in_bucket_lem : (i : ℕ) → consistent i ≡ true → bucket_of ws i ≡ hash_of k % buckets
    in_bucket_lem i e = ap (λ (x : ℕ). x % buckets) (passes i e).1

    find_last : find_key ws ar t k ≡ last_with (is_item ws ar t (hash_of k) k) (item_total ws) (item_total ws)
    unfolding find_key
    find_last =
        let s = tidy.valid-memory in
        ap (seek (is_item ws ar t (hash_of k) k) (item_older ws) (item_total ws) (item_total ws)) (tidy.heads (hash_of k % buckets) (mod-lt (hash_of k) (omega arith)))
        ∙ seek-last (is_item ws ar t (hash_of k) k) (item_older ws) (bucket_of ws) (item_total ws) (hash_of k % buckets) (item_total ws) s.items tidy.olders (λ i l e. in_bucket_lem i e)

    -- what is found is of the table and has the key
    pub find_found : (i : ℕ) → i ≡ find_key ws ar t k → i < item_total ws → (item_table ws i ≡ t) × (key_of ws ar i ≡ k)
    find_found i is h =
        let e : consistent i ≡ true = ap consistent (is ∙ find_last) ∙ with_hit consistent (item_total ws) (item_total ws) (subst (λ (x : ℕ). x < item_total ws) (is ∙ find_last) h) in
        ((passes i e).0, (passes i e).2)

    -- an item of the table with the key passes
    pub passing : (i : ℕ) → i < item_total ws → item_table ws i ≡ t → key_of ws ar i ≡ k → consistent i ≡ true
    unfolding is_item
    passing i l et ek =
        let eh : item_hash ws i ≡ hash_of k = tidy.hashes i l ∙ ap hash_of ek in
        let es : key_size ws i ≡ length k = sym (key_size_lem i l) ∙ ap length ek in
        let eb : same_bytes (key_of ws ar i) k ≡ true = ap (λ (x : List ℕ). same_bytes x k) ek ∙ same_refl k in
        simp (eq-eqb _ _ et, eq-eqb _ _ eh, eq-eqb _ _ es, eb)

    -- where nothing is found, no item is of the table and has the key
    pub find_missing : item_total ws ≤ find_key ws ar t k → (i : ℕ) → i < item_total ws → item_table ws i ≡ t → key_of ws ar i ≡ k → ⊥
    find_missing h i l et ek =
        let e = with_miss consistent (item_total ws) (item_total ws) (omega arith) (subst (λ (x : ℕ). item_total ws ≤ x) find_last h) i l in
        false-true (sym e ∙ passing i l et ek)

    pub find_within : find_key ws ar t k ≤ item_total ws
    find_within = subst (λ (x : ℕ). x ≤ item_total ws) (sym find_last) (with_within consistent (item_total ws) (item_total ws) (omega arith))
