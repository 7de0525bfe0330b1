-- An item written again keeps memory tidy, and is read back.
use Prim.Native.Nat.{ℕ, ◌+◌, ◌%◌, ◌≤◌, ◌<◌}
use native.Mathlib.Omega.{arith}
use native.Mathlib.Decide.{dec_lt}
use mathlib.Core.Path.{◌≡◌, refl, sym, ap, ◌∙◌, subst}
use mathlib.Core.Bool.{Bool, true, false}
use mathlib.Core.List.{List, [], ◌∷◌}
use borrow.Author.Tests.{eqb-true, eqb-false}
use lib.Dec.{eqb}
use lib.ListN.{length}
use Rattle.words.specs.Store.{part, put_at}
use Rattle.key_hash.specs.Hash.{hash_of}
use Rattle.words.proofs.StoreLaws.{length-put, get_put, get_before, get_after, part-put, part-before}
use Rattle.build_memory.specs.Memory.{word, item_at, head_at, link_at, item_total, room_used, item_table, key_of, Memory, memory, buckets}
use Rattle.build_memory.specs.Item.{Stored, replace_item}
use Rattle.history.specs.Items.{item, item_of}
use Rattle.history.specs.Tidy.{last_in, bucket_of, Tidy}
use Rattle.history.proofs.TidySearch.{last_cong}
use Rattle.history.proofs.TidyMade.{item_from}

module _ (ws ar : List ℕ) (i : ℕ) (c : Stored) (tidy : Tidy ws ar) (there : i < item_total ws) (room : room_used ws + length c.value ≤ length ar) where
  abbrev m : Memory
  m = replace_item (memory ws ar) i c

  abbrev row : List ℕ
  row = c.kind ∷ room_used ws ∷ length c.value ∷ c.guest ∷ []

  abbrev one : List ℕ
  one = put_at ws (item_at i + 6) row

  abbrev counts : List ℕ
  counts = item_total ws ∷ (room_used ws + length c.value) ∷ []

  one-length : length one ≡ length ws
  one-length = let s = tidy.valid-memory in length-put ws (item_at i + 6) row

  pub old_length : length m.words ≡ length ws
  unfolding replace_item
  old_length = let s = tidy.valid-memory in length-put one 3 counts ∙ one-length

  pub old_arena : length m.arena ≡ length ar
  unfolding replace_item
  old_arena = length-put ar (room_used ws) c.value

  pub old_three : item_total m.words ≡ item_total ws
  unfolding replace_item
  old_three = let s = tidy.valid-memory in get_put one 3 counts 0 (omega (arith, one-length)) (omega arith)

  pub old_four : room_used m.words ≡ room_used ws + length c.value
  unfolding replace_item
  old_four = let s = tidy.valid-memory in get_put one 3 counts 1 (omega (arith, one-length)) (omega arith)

  high : (p : ℕ) → 5 ≤ p → word m.words p ≡ word one p
  unfolding replace_item
  high p h = let s = tidy.valid-memory in get_after one 3 counts p (omega arith)

  low : (p : ℕ) → p < 3 → word m.words p ≡ word ws p
  unfolding replace_item
  low p h =
      let s = tidy.valid-memory in
      get_before one 3 counts p h ∙ get_before ws (item_at i + 6) row p (omega arith)

  -- a word before what the record holds is as it was
  before : (p : ℕ) → 5 ≤ p → p < item_at i + 6 → word m.words p ≡ word ws p
  before p h l = let s = tidy.valid-memory in high p h ∙ get_before ws (item_at i + 6) row p l

  behind : (p : ℕ) → item_at i + 10 ≤ p → word m.words p ≡ word ws p
  behind p l = let s = tidy.valid-memory in high p (omega arith) ∙ get_after ws (item_at i + 6) row p (omega arith)

  pub old_table_word : (p : ℕ) → p < 264 → (p ≡ 3 → ⊥) → (p ≡ 4 → ⊥) → word m.words p ≡ word ws p
  old_table_word p h n3 n4 = by_side (dec_lt p 3)
    where
      by_side : Dec (p < 3) → word m.words p ≡ word ws p
      by_side (yes b) = low p b
      by_side (no b) = before p (omega arith) (omega arith)

  own : (f : ℕ) → f < 4 → word m.words (item_at i + 6 + f) ≡ word row f
  own f h = let s = tidy.valid-memory in high (item_at i + 6 + f) (omega arith) ∙ get_put ws (item_at i + 6) row f (omega arith) h

  -- where an item stands is as it was, that of the one written again too
  place-word : (j f : ℕ) → f < 6 → word m.words (item_at j + f) ≡ word ws (item_at j + f)
  place-word j f h = by_side (dec_lt i j)
    where
      by_side : Dec (i < j) → word m.words (item_at j + f) ≡ word ws (item_at j + f)
      by_side (yes b) = behind (item_at j + f) (omega arith)
      by_side (no b) = before (item_at j + f) (omega arith) (omega arith)

  other : (j f : ℕ) → f < 12 → (j ≡ i → ⊥) → word m.words (item_at j + f) ≡ word ws (item_at j + f)
  other j f h ne = by_side (dec_lt i j)
    where
      by_side : Dec (i < j) → word m.words (item_at j + f) ≡ word ws (item_at j + f)
      by_side (yes b) = behind (item_at j + f) (omega arith)
      by_side (no b) = before (item_at j + f) (omega arith) (omega arith)

  old_part : (p n : ℕ) → p + n ≤ room_used ws → part m.arena p n ≡ part ar p n
  unfolding replace_item
  old_part p n h = part-before ar (room_used ws) c.value p n h

  value-part : part m.arena (room_used ws) (length c.value) ≡ c.value
  unfolding replace_item
  value-part = part-put ar (room_used ws) c.value (omega arith)

  pub same_key : (j : ℕ) → j < item_total ws → key_of m.words m.arena j ≡ key_of ws ar j
  unfolding key_of
  same_key j l =
      ap (λ (x : ℕ). part m.arena x (word m.words (item_at j + 4))) (place-word j 3 (omega arith))
      ∙ ap (part m.arena (word ws (item_at j + 3))) (place-word j 4 (omega arith)) ∙ old_part (word ws (item_at j + 3)) (word ws (item_at j + 4)) (tidy.keys j l)

  pub old_item : item_of m.words m.arena i ≡ item (item_table ws i) (key_of ws ar i) (word ws (item_at i + 5)) c.kind c.value c.guest
  unfolding key_of
  old_item =
      let w : ℕ → ℕ = λ f. word ws (item_at i + f) in
      let g : (a b : ℕ) → item_at i + 6 + a ≡ b → word m.words b ≡ word m.words (item_at i + 6 + a) = λ a b e. ap (word m.words) (sym e) in
      item_from m.words m.arena i (w 0) (w 3) (w 4) (w 5) c.kind (room_used ws) (length c.value) c.guest
      (place-word i 0 (omega arith)) (place-word i 3 (omega arith)) (place-word i 4 (omega arith)) (place-word i 5 (omega arith))
      (g 0 (item_at i + 6) (omega arith) ∙ own 0 (omega arith)) (g 1 (item_at i + 7) (omega arith) ∙ own 1 (omega arith))
      (g 2 (item_at i + 8) (omega arith) ∙ own 2 (omega arith)) (g 3 (item_at i + 9) (omega arith) ∙ own 3 (omega arith))
      ∙ ap (λ (x : List ℕ). item (item_table ws i) x (w 5) c.kind (part m.arena (room_used ws) (length c.value)) c.guest) (old_part (w 3) (w 4) (tidy.keys i there))
      ∙ ap (λ (x : List ℕ). item (item_table ws i) (part ar (w 3) (w 4)) (w 5) c.kind x c.guest) value-part

  pub else_item : (j : ℕ) → j < item_total ws → (j ≡ i → ⊥) → item_of m.words m.arena j ≡ item_of ws ar j
  else_item j l ne =
      let w : ℕ → ℕ = λ f. word ws (item_at j + f) in
      item_from m.words m.arena j (w 0) (w 3) (w 4) (w 5) (w 6) (w 7) (w 8) (w 9)
      (other j 0 (omega arith) ne) (other j 3 (omega arith) ne) (other j 4 (omega arith) ne) (other j 5 (omega arith) ne)
      (other j 6 (omega arith) ne) (other j 7 (omega arith) ne) (other j 8 (omega arith) ne) (other j 9 (omega arith) ne)
      ∙ ap (λ (x : List ℕ). item (w 0) x (w 5) (w 6) (part m.arena (w 7) (w 8)) (w 9)) (old_part (w 3) (w 4) (tidy.keys j l))
      ∙ ap (λ (x : List ℕ). item (w 0) (part ar (w 3) (w 4)) (w 5) (w 6) x (w 9)) (old_part (w 7) (w 8) (tidy.values j l))
      ∙ sym (item_from ws ar j (w 0) (w 3) (w 4) (w 5) (w 6) (w 7) (w 8) (w 9) refl refl refl refl refl refl refl refl)

  same_bucket : (j : ℕ) → bucket_of m.words j ≡ bucket_of ws j
  same_bucket j = ap (λ (x : ℕ). x % buckets) (place-word j 1 (omega arith))

  same_last : (b j : ℕ) → last_in (bucket_of ws) b j ≡ last_in (bucket_of m.words) b j
  same_last b j = last_cong (bucket_of ws) (bucket_of m.words) b j (λ x l. sym (same_bucket x))

  value_by : (j : ℕ) → j < item_total ws → (q : Bool) → eqb j i ≡ q → word m.words (item_at j + 7) + word m.words (item_at j + 8) ≤ room_used m.words
  value_by j h true e =
      let g : (a b : ℕ) → item_at i + 6 + a ≡ b → word m.words b ≡ word m.words (item_at i + 6 + a) = λ a b e. ap (word m.words) (sym e) in
      let a : word m.words (item_at i + 7) ≡ room_used ws = g 1 (item_at i + 7) (omega arith) ∙ own 1 (omega arith) in
      let b : word m.words (item_at i + 8) ≡ length c.value = g 2 (item_at i + 8) (omega arith) ∙ own 2 (omega arith) in
      subst (λ (x : ℕ). word m.words (item_at x + 7) + word m.words (item_at x + 8) ≤ room_used m.words) (sym (eqb-true _ _ e)) (omega (arith, old_four))
  value_by j h false e =
      let ne = eqb-false j i e in
      omega (arith, old_four, tidy.values j h, other j 7 (omega arith) ne, other j 8 (omega arith) ne)

  pub old_tidy : Tidy m.words m.arena
  old_tidy =
      let s = tidy.valid-memory in
      let lw = old_length in
      let la = old_arena in
      let w0 = low 0 (omega arith) in
      let w1 = low 1 (omega arith) in
      let w2 = low 2 (omega arith) in
      let w3 = old_three in
      let w4 = old_four in
      record {
        valid-memory = record { long = omega arith; words = omega arith; room = omega arith; tables = omega arith; items = omega arith; used = omega arith };
        keys = λ j l. omega (arith, tidy.keys j (subst (λ (x : ℕ). j < x) w3 l), place-word j 3 (omega arith), place-word j 4 (omega arith));
        values = λ j l. value_by j (subst (λ (x : ℕ). j < x) w3 l) (eqb j i) refl;
        hashes = λ j l. let h = subst (λ (x : ℕ). j < x) w3 l in place-word j 1 (omega arith) ∙ tidy.hashes j h ∙ ap hash_of (sym (same_key j h));
        heads = λ b h. before (head_at b) (omega arith) (omega arith) ∙ tidy.heads b h ∙ same_last b (item_total ws) ∙ ap (last_in (bucket_of m.words) b) (sym w3);
        olders = λ j l. place-word j 2 (omega arith) ∙ tidy.olders j (subst (λ (x : ℕ). j < x) w3 l) ∙ same_last (bucket_of ws j) j ∙ ap (λ (b : ℕ). last_in (bucket_of m.words) b j) (sym (same_bucket j));
        clear = λ j h. behind (link_at j) (omega (arith, s.items)) ∙ tidy.clear j h;
      }
