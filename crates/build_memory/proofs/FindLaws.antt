-- The laws of the search along a chain: its turns and its ends.
use Prim.Native.Nat.{ℕ, zero, suc, ◌%◌, ◌≤◌, ◌<◌}
use native.Mathlib.Nat.{not-suc-le-zero}
use native.Mathlib.Omega.{arith}
use mathlib.Core.Path.{◌≡◌, refl, sym, ap, ◌∙◌}
use mathlib.Core.Bool.{Bool, true, false}
use mathlib.Core.List.{List}
use borrow.Author.Tests.{eqb-true, eqb-false, ne_eqb}
use lib.Dec.{eqb}
use Rattle.words.specs.Choice.{pick}
use Rattle.key_hash.specs.Hash.{hash_of}
use Rattle.build_memory.specs.Memory.{word, buckets, head_at, item_total, item_older}
use Rattle.build_memory.specs.Find.{is_item, seek, find_key}

-- ---- a chain

module _ (test : ℕ → Bool) (older : ℕ → ℕ) (none : ℕ) where
  pub seek_end : (n i : ℕ) → n ≤ i → seek test older none n i ≡ none
  unfolding seek pick
  seek_end zero i h = refl
  seek_end (suc m) i h =
      ap (λ (q : Bool). pick q (pick (test m) m (seek test older none m (older m))) (seek test older none m i)) (ne_eqb i m (λ (e : i ≡ m). omega arith))
      ∙ seek_end m i (omega arith)

  pub seek_at : (n i : ℕ) → i < n → seek test older none n i ≡ pick (test i) i (seek test older none i (older i))
  unfolding seek pick
  seek_at zero i h = absurd (not-suc-le-zero h)
  seek_at (suc m) i h = by_field (eqb i m) refl (seek_at m i)
    where
      by_field : (q : Bool) → eqb i m ≡ q → (i < m → seek test older none m i ≡ pick (test i) i (seek test older none i (older i)))
          → pick q (pick (test m) m (seek test older none m (older m))) (seek test older none m i) ≡ pick (test i) i (seek test older none i (older i))
      by_field true e ih = ap (λ (j : ℕ). pick (test j) j (seek test older none j (older j))) (sym (eqb-true i m e))
      by_field false e ih = let ne = eqb-false i m e in ih (omega arith)

  pub seek_hit : (n i : ℕ) → i < n → test i ≡ true → seek test older none n i ≡ i
  unfolding pick
  seek_hit n i h e = seek_at n i h ∙ simp e

  pub seek_step : (n i : ℕ) → i < n → test i ≡ false → seek test older none n i ≡ seek test older none i (older i)
  unfolding pick
  seek_step n i h e = seek_at n i h ∙ simp e

module _ (ws ar : List ℕ) (t : ℕ) (key : List ℕ) where
  abbrev pub chain_from : ℕ → ℕ → ℕ
  chain_from limit i = seek (is_item ws ar t (hash_of key) key) (item_older ws) (item_total ws) limit i

  module _ (h : ℕ) (is : h ≡ hash_of key) where
    pub find_start : find_key ws ar t key ≡ chain_from (item_total ws) (word ws (head_at (h % buckets)))
    unfolding find_key
    find_start = ap (λ (n : ℕ). chain_from (item_total ws) (word ws (head_at (n % buckets)))) (sym is)

    module _ (limit i : ℕ) (l : i < limit) (r : Bool) (e : r ≡ is_item ws ar t h key i) where
      at_hash : is_item ws ar t (hash_of key) key i ≡ r
      at_hash = sym (e ∙ ap (λ (n : ℕ). is_item ws ar t n key i) is)

      pub find_hit : r ≡ true → find_key ws ar t key ≡ chain_from limit i → i ≡ find_key ws ar t key
      find_hit q f = sym (f ∙ seek_hit (is_item ws ar t (hash_of key) key) (item_older ws) (item_total ws) limit i l (at_hash ∙ q))

      pub find_next : r ≡ false → find_key ws ar t key ≡ chain_from limit i → (next : ℕ) → next ≡ item_older ws i → find_key ws ar t key ≡ chain_from i next
      find_next q f next g =
          f ∙ seek_step (is_item ws ar t (hash_of key) key) (item_older ws) (item_total ws) limit i l (at_hash ∙ q) ∙ ap (chain_from i) (sym g)

  pub find_none : (limit i : ℕ) → limit ≤ i → find_key ws ar t key ≡ chain_from limit i → item_total ws ≡ find_key ws ar t key
  find_none limit i l f = sym (f ∙ seek_end (is_item ws ar t (hash_of key) key) (item_older ws) (item_total ws) limit i l)
