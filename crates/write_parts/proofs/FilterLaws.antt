-- A table's filter words in an image: zeros are words of 0, a word that is stored over one of them changes that one alone, and a hash that joins
-- its word is the filter of one item more.
use mathlib.Core.Path.{◌≡◌, refl, sym, ap, ◌∙◌}
use mathlib.Core.Logic.{⊎_elim}
use mathlib.Core.List.{List, [], ◌∷◌, ◌++◌}
use Prim.Native.Nat.{ℕ, zero, suc, ◌+◌, ◌*◌, ◌/◌, ◌%◌, ◌^◌, ◌≤◌, ◌<◌}
use native.Mathlib.Nat.{eq-or-lt_of_le, le_of_suc-le-suc, mod-lt}
use native.Mathlib.Numerals.{add-one}
use native.Mathlib.Omega.{arith}
use lib.ListN.{length, replicate, replicate-append-replicate}
use lib.Seq.{set-set}
use borrow.Author.Tests.{eq-eqb, ne_eqb}
use Rattle.words.specs.Choice.{pick}
use Rattle.words.specs.Store.{put_at, copies, zeros}
use Rattle.words.specs.Field.{spelled, word_at}
use Rattle.words.specs.Bits.{bit_put}
use Rattle.words.proofs.StoreLaws.{length-zeros, put_comm, put-append}
use Rattle.words.proofs.FieldLaws.{length-spelled}
use Rattle.image.specs.Plan.{word, words_of, with_hash, filter_word}
use Rattle.image.proofs.LaidLaws.{holds-put}
use Rattle.image.proofs.PlanLaws.{length_words, words_same, words_held, field-held}
use Rattle.image.proofs.FilterLaws.{filter_small}
use Rattle.write_parts.specs.Numbered.{slot_hash}
use Rattle.write_parts.specs.Slot.{slot_filter}
use Rattle.write_parts.proofs.PutLaws.{length_filter}

-- ---- words that are stored over

-- a second store over a first of its length is the second alone
put_over : (l : List ℕ) (i : ℕ) (a b : List ℕ) → length a ≡ length b → put_at (put_at l i a) i b ≡ put_at l i b
unfolding put_at
put_over l i [] [] e = refl
put_over l i [] (w ∷ b) e = absurd (omega arith)
put_over l i (v ∷ a) [] e = absurd (omega arith)
put_over l i (v ∷ a) (w ∷ b) e =
    let swapped = put_comm l i (v ∷ []) (suc i) a (omega arith) in
    ap (λ (m : List ℕ). put_at (put_at m i (w ∷ [])) (suc i) b) swapped
    ∙ ap (λ (m : List ℕ). put_at m (suc i) b) (set-set (put_at l (suc i) a) i v w ∙ sym (put_comm l i (w ∷ []) (suc i) a (omega arith)))
    ∙ put_over (put_at l i (w ∷ [])) (suc i) a b (omega arith)

zeros_words : (n : ℕ) → zeros (4 * n) ≡ words_of (λ _. 0) n
unfolding copies words_of spelled
zeros_words zero = refl
zeros_words (suc n) =
    let more : 4 * suc n ≡ 4 * n + 4 = omega arith in
    ap (λ (k : ℕ). replicate k 0) more ∙ sym (replicate-append-replicate (4 * n) 4 0) ∙ ap (λ (m : List ℕ). m ++ replicate 4 0) (zeros_words n)

-- words with one more behind them
words_put : (l : List ℕ) (at : ℕ) (f : ℕ → ℕ) (n : ℕ) → put_at l at (words_of f (suc n)) ≡ put_at (put_at l at (words_of f n)) (at + 4 * n) (word (f n))
unfolding words_of
words_put l at f n = put-append l at (words_of f n) (word (f n)) ∙ ap (λ (k : ℕ). put_at (put_at l at (words_of f n)) (at + k) (word (f n))) (length_words f n)

-- a word stored over one of n words
words_changed : (l : List ℕ) (at : ℕ) (f g : ℕ → ℕ) (n j : ℕ) → j < n → ((k : ℕ) → k < n → (k ≡ j → ⊥) → f k ≡ g k)
    → put_at (put_at l at (words_of f n)) (at + 4 * j) (word (g j)) ≡ put_at l at (words_of g n)
words_changed l at f g zero j less same = absurd (omega arith)
words_changed l at f g (suc n) j less same =
    ap (λ (m : List ℕ). put_at m (at + 4 * j) (word (g j))) (words_put l at f n)
    ∙ ⊎_elim
    (λ (e : j ≡ n). rw e (put_over (put_at l at (words_of f n)) (at + 4 * n) (word (f n)) (word (g n)) (length-spelled 4 (f n) ∙ sym (length-spelled 4 (g n)))
    ∙ ap (λ (m : List ℕ). put_at (put_at l at m) (at + 4 * n) (word (g n))) (words_same f g n (λ k h. same k (omega arith) (λ d. omega arith)))))
    (λ (h : j < n). sym (put_comm (put_at l at (words_of f n)) (at + 4 * j) (word (g j)) (at + 4 * n) (word (f n)) (omega (arith, length-spelled 4 (g j))))
    ∙ ap (λ (m : List ℕ). put_at m (at + 4 * n) (word (f n))) (words_changed l at f g n j h (λ k less. same k (omega arith)))
    ∙ ap (λ (w : ℕ). put_at (put_at l at (words_of g n)) (at + 4 * n) (word w)) (same n (omega arith) (λ d. omega arith)))
    (eq-or-lt_of_le (le_of_suc-le-suc less))
    ∙ sym (words_put l at g n)

-- a word read back from n words that fit
words_read : (l : List ℕ) (at : ℕ) (f : ℕ → ℕ) (n j : ℕ) → j < n → at + 4 * n ≤ length l → f j < 2 ^ 32 → word_at (put_at l at (words_of f n)) (at + 4 * j) ≡ f j
words_read l at f n j less fits small =
    field-held 4 _ (at + 4 * j) (f j) (omega arith) (words_held _ f n j at less (holds-put l at (words_of f n) (omega (arith, length_words f n))))

-- ---- a hash that joins its word

pub hash-put : (l : List ℕ) (at h : ℕ) {m : List ℕ} {w first second : ℕ} → w ≡ word_at l at → first ≡ bit_put w (h % 32) → second ≡ bit_put first (h / 32 % 32)
    → m ≡ put_at l at (word second) → m ≡ put_at l at (word (with_hash (word_at l at) h))
unfolding with_hash
hash-put l at h e f g p = p ∙ rw (g, f, e)

-- ---- the loop over a table's items: the filter over the first n of them

module _ (numbered : List ℕ) (filter first : ℕ) where
  -- no words
  pub filter_none : (l : List ℕ) (at count : ℕ) → filter ≡ 0 → l ≡ put_at l at (slot_filter numbered filter first count)
  unfolding slot_filter words_of put_at
  filter_none l at count e = rw e

  pub filter_start : (l : List ℕ) (at : ℕ) {m : List ℕ} → m ≡ put_at l at (zeros (4 * filter)) → m ≡ put_at m at (slot_filter numbered filter first 0)
  unfolding slot_filter filter_word
  filter_start l at p = rw (p, ← zeros_words filter) (sym (put_over l at (zeros (4 * filter)) (zeros (4 * filter)) refl))

  pub filter_turn : (l : List ℕ) (at n : ℕ) {m o : List ℕ} {h : ℕ} → 0 < filter → at + 4 * filter ≤ length l → h ≡ slot_hash numbered (first + n)
      → m ≡ put_at l at (slot_filter numbered filter first n) → o ≡ put_at m (at + 4 * (h / 32 % filter)) (word (with_hash (word_at m (at + 4 * (h / 32 % filter))) h))
      → o ≡ put_at l at (slot_filter numbered filter first (n + 1))
  unfolding slot_filter filter_word pick
  filter_turn l at n {m} {o} {h} some fits e p q =
      let hash : ℕ → ℕ = λ i. slot_hash numbered (first + i) in
      let j = hash n / 32 % filter in
      let less : j < filter = mod-lt (hash n / 32) some in
      let f : ℕ → ℕ = λ k. filter_word hash filter k n in
      let g : ℕ → ℕ = λ k. filter_word hash filter k (suc n) in
      let own : g j ≡ with_hash (f j) (hash n) = rw (eq-eqb j j refl) in
      let q' : o ≡ put_at (put_at l at (words_of f filter)) (at + 4 * j) (word (g j)) =
      q ∙ rw (own, ← words_read l at f filter j less fits (filter_small hash filter j n), p, e) in
      rw add-one (q' ∙ words_changed l at f g filter j less (λ k _ other. rw (ne_eqb j k (λ d. other (sym d)))))

  -- the zeros before it have no bearing
  pub filter_end : (l : List ℕ) (at count : ℕ) {m o : List ℕ} {k : ℕ} → k ≡ count → m ≡ put_at l at (zeros (4 * filter)) → o ≡ put_at m at (slot_filter numbered filter first k)
      → o ≡ put_at l at (slot_filter numbered filter first count)
  filter_end l at count e p q =
      q ∙ rw (e, p)
      (put_over l at (zeros (4 * filter)) (slot_filter numbered filter first count) (length-zeros (4 * filter) ∙ sym (length_filter numbered filter first count)))
