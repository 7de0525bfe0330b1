-- A made item keeps memory tidy, and is read back.
use Prim.Native.Nat.{ℕ, ◌+◌, ◌%◌, ◌≤◌, ◌<◌}
use native.Mathlib.Nat.{mod-lt}
use native.Mathlib.Numerals.{add-one}
use native.Mathlib.Omega.{arith}
use mathlib.Core.Path.{◌≡◌, refl, sym, ap, ◌∙◌, subst}
use mathlib.Core.Bool.{Bool, true, false}
use mathlib.Core.List.{List, [], ◌∷◌}
use borrow.Author.Tests.{eqb-true, eqb-false}
use lib.Dec.{eqb}
use lib.ListN.{length}
use Rattle.words.specs.Choice.{pick}
use Rattle.words.specs.Store.{part}
use Rattle.key_hash.specs.Hash.{hash_of}
use Rattle.build_memory.specs.Memory.{word, least_words, heads_from, item_at, head_at, link_at, item_total, room_used, item_older, key_of, Memory, memory, buckets}
use Rattle.build_memory.specs.Item.{Stored, make_item}
use Rattle.build_memory.proofs.MadeLaws.{made_length, made_arena, made_items, made_used, made_low, made_head, other_head, its_word, other_word, made_behind, old_part, key_part, value-part}
use Rattle.layout.specs.Limits.{most_items}
use Rattle.history.specs.Items.{item, item_of}
use Rattle.history.specs.Tidy.{last_in, bucket_of, Tidy}
use Rattle.history.proofs.TidySearch.{last_cong}

-- ---- an item from its words
pub item_from : (ws ar : List ℕ) (i t ka kl parent kind va vl g : ℕ)
    → word ws (item_at i + 0) ≡ t → word ws (item_at i + 3) ≡ ka → word ws (item_at i + 4) ≡ kl → word ws (item_at i + 5) ≡ parent
    → word ws (item_at i + 6) ≡ kind → word ws (item_at i + 7) ≡ va → word ws (item_at i + 8) ≡ vl → word ws (item_at i + 9) ≡ g
    → item_of ws ar i ≡ item t (part ar ka kl) parent kind (part ar va vl) g
unfolding item_of key_of
item_from ws ar i t ka kl parent kind va vl g e0 e3 e4 e5 e6 e7 e8 e9 =
    cc

module _ (ws ar : List ℕ) (t parent : ℕ) (k : List ℕ) (c : Stored) (tidy : Tidy ws ar) (few : item_total ws < most_items)
    (room : room_used ws + length k + length c.value ≤ length ar) where
  abbrev m : Memory
  m = make_item (memory ws ar) t parent k c

  long : least_words ≤ length ws
  long = tidy.valid-memory.long

  abbrev own : (f : ℕ) → f < 10 → word m.words (item_at (item_total ws) + f) ≡ word (t ∷ hash_of k ∷ word ws (head_at (hash_of k % buckets)) ∷ room_used ws ∷ length k ∷ parent ∷ c.kind ∷ (room_used ws + length k) ∷ length c.value ∷ c.guest ∷ []) f
  own = its_word ws ar t parent k c long few

  abbrev other : (j f : ℕ) → f < 12 → j < item_total ws → word m.words (item_at j + f) ≡ word ws (item_at j + f)
  other = other_word ws ar t parent k c long few

  pub made_three : item_total m.words ≡ item_total ws + 1
  made_three = made_items ws ar t parent k c long few

  pub made_four : room_used m.words ≡ room_used ws + length k + length c.value
  made_four = made_used ws ar t parent k c long few

  pub made_table_word : (p : ℕ) → p < heads_from → (p ≡ 3 → ⊥) → (p ≡ 4 → ⊥) → word m.words p ≡ word ws p
  made_table_word = made_low ws ar t parent k c long few

  abbrev old : (at n : ℕ) → at + n ≤ room_used ws → part m.arena at n ≡ part ar at n
  old = old_part ws ar t parent k c

  abbrev its_part : part m.arena (room_used ws) (length k) ≡ k
  its_part = key_part ws ar t parent k c room

  abbrev held-part : part m.arena (room_used ws + length k) (length c.value) ≡ c.value
  held-part = value-part ws ar t parent k c room

  pub its_key : key_of m.words m.arena (item_total ws) ≡ k
  unfolding key_of
  its_key =
      ap (λ (x : ℕ). part m.arena x (word m.words (item_at (item_total ws) + 4))) (own 3 (omega arith))
      ∙ ap (part m.arena (room_used ws)) (own 4 (omega arith)) ∙ its_part

  pub other_key : (j : ℕ) → j < item_total ws → key_of m.words m.arena j ≡ key_of ws ar j
  unfolding key_of
  other_key j l =
      ap (λ (x : ℕ). part m.arena x (word m.words (item_at j + 4))) (other j 3 (omega arith) l)
      ∙ ap (part m.arena (word ws (item_at j + 3))) (other j 4 (omega arith) l) ∙ old (word ws (item_at j + 3)) (word ws (item_at j + 4)) (tidy.keys j l)

  pub its_item : item_of m.words m.arena (item_total ws) ≡ item t k parent c.kind c.value c.guest
  its_item =
      item_from m.words m.arena (item_total ws) t (room_used ws) (length k) parent c.kind (room_used ws + length k) (length c.value) c.guest
      (own 0 (omega arith)) (own 3 (omega arith)) (own 4 (omega arith)) (own 5 (omega arith)) (own 6 (omega arith)) (own 7 (omega arith)) (own 8 (omega arith)) (own 9 (omega arith))
      ∙ ap (λ (x : List ℕ). item t x parent c.kind (part m.arena (room_used ws + length k) (length c.value)) c.guest) its_part
      ∙ ap (λ (x : List ℕ). item t k parent c.kind x c.guest) held-part

  pub other_item : (j : ℕ) → j < item_total ws → item_of m.words m.arena j ≡ item_of ws ar j
  other_item j l =
      let w : ℕ → ℕ = λ f. word ws (item_at j + f) in
      item_from m.words m.arena j (w 0) (w 3) (w 4) (w 5) (w 6) (w 7) (w 8) (w 9)
      (other j 0 (omega arith) l) (other j 3 (omega arith) l) (other j 4 (omega arith) l) (other j 5 (omega arith) l)
      (other j 6 (omega arith) l) (other j 7 (omega arith) l) (other j 8 (omega arith) l) (other j 9 (omega arith) l)
      ∙ ap (λ (x : List ℕ). item (w 0) x (w 5) (w 6) (part m.arena (w 7) (w 8)) (w 9)) (old (w 3) (w 4) (tidy.keys j l))
      ∙ ap (λ (x : List ℕ). item (w 0) (part ar (w 3) (w 4)) (w 5) (w 6) x (w 9)) (old (w 7) (w 8) (tidy.values j l))
      ∙ sym (item_from ws ar j (w 0) (w 3) (w 4) (w 5) (w 6) (w 7) (w 8) (w 9) refl refl refl refl refl refl refl refl)

  -- ---- the index
  its_bucket : bucket_of m.words (item_total ws) ≡ hash_of k % buckets
  its_bucket = ap (λ (x : ℕ). x % buckets) (own 1 (omega arith))

  other_bucket : (j : ℕ) → j < item_total ws → bucket_of m.words j ≡ bucket_of ws j
  other_bucket j l = ap (λ (x : ℕ). x % buckets) (other j 1 (omega arith) l)

  same_last : (b i : ℕ) → i ≤ item_total ws → last_in (bucket_of ws) b i ≡ last_in (bucket_of m.words) b i
  same_last b i h = last_cong (bucket_of ws) (bucket_of m.words) b i (λ j l. sym (other_bucket j (omega arith)))

  head_by : (b : ℕ) → b < buckets → (q : Bool) → eqb (hash_of k % buckets) b ≡ q → word m.words (head_at b) ≡ pick q (item_total ws) (last_in (bucket_of m.words) b (item_total ws))
  unfolding pick
  head_by b h true e = ap (λ (x : ℕ). word m.words (head_at x)) (sym (eqb-true _ _ e)) ∙ made_head ws ar t parent k c long few
  head_by b h false e =
      other_head ws ar t parent k c long few b h (λ (f : b ≡ hash_of k % buckets). eqb-false (hash_of k % buckets) b e (sym f)) ∙ tidy.heads b h ∙ same_last b (item_total ws) (omega arith)

  head_consistent : (b : ℕ) → b < buckets → word m.words (head_at b) ≡ last_in (bucket_of m.words) b (item_total m.words)
  unfolding last_in pick
  head_consistent b h =
      head_by b h (eqb (hash_of k % buckets) b) refl
      ∙ ap (λ (x : ℕ). pick (eqb x b) (item_total ws) (last_in (bucket_of m.words) b (item_total ws))) (sym its_bucket)
      ∙ ap (last_in (bucket_of m.words) b) (sym (add-one (item_total ws)) ∙ sym made_three)

  older_by : (i : ℕ) → i < item_total ws + 1 → (q : Bool) → eqb i (item_total ws) ≡ q → item_older m.words i ≡ last_in (bucket_of m.words) (bucket_of m.words i) i
  older_by i h true e =
      let f = eqb-true _ _ e in
      subst (λ (x : ℕ). item_older m.words x ≡ last_in (bucket_of m.words) (bucket_of m.words x) x) (sym f)
      (own 2 (omega arith) ∙ tidy.heads (hash_of k % buckets) (mod-lt (hash_of k) (omega arith)) ∙ same_last (hash_of k % buckets) (item_total ws) (omega arith)
      ∙ ap (λ (b : ℕ). last_in (bucket_of m.words) b (item_total ws)) (sym its_bucket))
  older_by i h false e =
      let ne = eqb-false i (item_total ws) e in
      let l : i < item_total ws = omega arith in
      other i 2 (omega arith) l ∙ tidy.olders i l ∙ same_last (bucket_of ws i) i (omega arith)
      ∙ ap (λ (b : ℕ). last_in (bucket_of m.words) b i) (sym (other_bucket i l))

  -- ---- ranges and hashes
  key_by : (i : ℕ) → i < item_total ws + 1 → (q : Bool) → eqb i (item_total ws) ≡ q → word m.words (item_at i + 3) + word m.words (item_at i + 4) ≤ room_used m.words
  key_by i h true e =
      let a = own 3 (omega arith) in
      let b = own 4 (omega arith) in
      subst (λ (x : ℕ). word m.words (item_at x + 3) + word m.words (item_at x + 4) ≤ room_used m.words) (sym (eqb-true _ _ e)) (omega (arith, made_four))
  key_by i h false e =
      let ne = eqb-false i (item_total ws) e in
      let l : i < item_total ws = omega arith in
      omega (arith, made_four, tidy.keys i l, other i 3 (omega arith) l, other i 4 (omega arith) l)

  value_by : (i : ℕ) → i < item_total ws + 1 → (q : Bool) → eqb i (item_total ws) ≡ q → word m.words (item_at i + 7) + word m.words (item_at i + 8) ≤ room_used m.words
  value_by i h true e =
      let a = own 7 (omega arith) in
      let b = own 8 (omega arith) in
      subst (λ (x : ℕ). word m.words (item_at x + 7) + word m.words (item_at x + 8) ≤ room_used m.words) (sym (eqb-true _ _ e)) (omega (arith, made_four))
  value_by i h false e =
      let ne = eqb-false i (item_total ws) e in
      let l : i < item_total ws = omega arith in
      omega (arith, made_four, tidy.values i l, other i 7 (omega arith) l, other i 8 (omega arith) l)

  hash_by_lem : (i : ℕ) → i < item_total ws + 1 → (q : Bool) → eqb i (item_total ws) ≡ q → word m.words (item_at i + 1) ≡ hash_of (key_of m.words m.arena i)
  hash_by_lem i h true e = subst (λ (x : ℕ). word m.words (item_at x + 1) ≡ hash_of (key_of m.words m.arena x)) (sym (eqb-true _ _ e)) (own 1 (omega arith) ∙ ap hash_of (sym its_key))
  hash_by_lem i h false e =
      let ne = eqb-false i (item_total ws) e in
      let l : i < item_total ws = omega arith in
      other i 1 (omega arith) l ∙ tidy.hashes i l ∙ ap hash_of (sym (other_key i l))

  pub made_tidy : Tidy m.words m.arena
  made_tidy =
      let s = tidy.valid-memory in
      let lw = made_length ws ar t parent k c in
      let la = made_arena ws ar t parent k c in
      let w0 = made_table_word 0 (omega arith) (λ (e : 0 ≡ 3). omega arith) (λ (e : 0 ≡ 4). omega arith) in
      let w1 = made_table_word 1 (omega arith) (λ (e : 1 ≡ 3). omega arith) (λ (e : 1 ≡ 4). omega arith) in
      let w2 = made_table_word 2 (omega arith) (λ (e : 2 ≡ 3). omega arith) (λ (e : 2 ≡ 4). omega arith) in
      let w3 = made_three in
      let w4 = made_four in
      record {
        valid-memory = record { long = omega arith; words = omega arith; room = omega arith; tables = omega arith; items = omega arith; used = omega arith };
        keys = λ i l. key_by i (subst (λ (x : ℕ). i < x) w3 l) (eqb i (item_total ws)) refl;
        values = λ i l. value_by i (subst (λ (x : ℕ). i < x) w3 l) (eqb i (item_total ws)) refl;
        hashes = λ i l. hash_by_lem i (subst (λ (x : ℕ). i < x) w3 l) (eqb i (item_total ws)) refl;
        heads = head_consistent;
        olders = λ i l. older_by i (subst (λ (x : ℕ). i < x) w3 l) (eqb i (item_total ws)) refl;
        clear = λ j h. made_behind ws ar t parent k c long few (link_at j) (omega arith) ∙ tidy.clear j h;
      }
