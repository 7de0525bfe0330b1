-- What the small stores leave: words behind one another, a record in two halves, a fragment with its zeros.
use mathlib.Core.Path.{◌≡◌, sym, ap, ◌∙◌}
use mathlib.Core.List.{List, [], ◌∷◌, ◌++◌, append_assoc}
use Prim.Native.Nat.{ℕ, ◌+◌, ◌*◌, ◌-◌, ◌≤◌, ◌<◌}
use native.Mathlib.Omega.{arith}
use borrow.Author.Tests.{eq-eqb, ne_eqb}
use lib.ListN.{length, length-append, get_or}
use Rattle.words.specs.Choice.{pick}
use Rattle.words.specs.Store.{part, put_at, zeros}
use Rattle.words.specs.Field.{spelled}
use Rattle.words.proofs.StoreLaws.{put-none, length_part, put_then}
use Rattle.words.proofs.FieldLaws.{length-spelled}
use Rattle.image.specs.Laid.{Laid}
use Rattle.image.specs.Plan.{word, words_of, first_word}
use Rattle.image.proofs.PlanLaws.{length_words, words_more, words_same, fourth_word}
use Rattle.layout.specs.Kind.{value_kind}
use Rattle.write_parts.specs.Numbered.{slots_from, slot_size, children_from, slot_word, slot_hash, slot_parent, slot_fragment, slot_fragment_size, slot_kind, slot_value_word, slot_value_size, slot_bucket, child_word, slot_cover}
use Rattle.write_parts.specs.Slot.{head_bytes, slot_filter, slot_record, slot_key, plain_value}

-- ---- words

pub put_head : (l : List ℕ) (at filter count : ℕ) {m n : List ℕ} → m ≡ put_at l at (word (first_word filter)) → n ≡ put_at m (at + 4) (word count)
    → n ≡ put_at l at (head_bytes filter count)
unfolding head_bytes
put_head l at filter count p q = put_then l at (word (first_word filter)) (word count) (ap (λ (n : ℕ). at + n) (sym (length-spelled 4 (first_word filter)))) p q

pub length_head : (filter count : ℕ) → length (head_bytes filter count) ≡ 8
unfolding head_bytes
length_head filter count = length-append (word (first_word filter)) (word count) ∙ omega (arith, length-spelled 4 (first_word filter), length-spelled 4 count)

-- no word yet, and a word more
pub words_start : (l : List ℕ) (at : ℕ) (f : ℕ → ℕ) → l ≡ put_at l at (words_of f 0)
unfolding words_of
words_start l at f = sym (put-none l at)

pub words_turn : (l : List ℕ) (at : ℕ) (f : ℕ → ℕ) (b : ℕ) {m n : List ℕ} {w : ℕ} → m ≡ put_at l at (words_of f b) → w ≡ f b → n ≡ put_at m (at + 4 * b) (word w)
    → n ≡ put_at l at (words_of f (b + 1))
words_turn l at f b {m} {n} {w} p e q =
    rw (words_more f b) (put_then l at (words_of f b) (word (f b)) (ap (λ (k : ℕ). at + k) (sym (length_words f b))) p (rw (← e) q))

pub words_laid : (l : List ℕ) (at : ℕ) (f : ℕ → ℕ) (n b : ℕ) {m : List ℕ} → b ≡ n → m ≡ put_at l at (words_of f b) → Laid l m at (words_of f n) (at + 4 * n)
words_laid l at f n b {m} e p = record {
  end_is = ap (λ (k : ℕ). at + k) (sym (length_words f n));
  image_is = p ∙ ap (λ (k : ℕ). put_at l at (words_of f k)) e;
}

-- bucket words and child words as they stand in a numbered table, by the way of one to the next
pub bucket_is : (numbered : List ℕ) (first b : ℕ) → slot_bucket numbered (first + b) ≡ get_or numbered (slots_from + slot_size * first + 7 + slot_size * b) 0
unfolding slot_word
bucket_is numbered first b = ap (λ (n : ℕ). get_or numbered n 0) (omega arith)

pub child_is : (numbered : List ℕ) (start j : ℕ) → child_word numbered (start + j) ≡ get_or numbered (children_from + start + 1 * j) 0
unfolding child_word
child_is numbered start j = ap (λ (n : ℕ). get_or numbered n 0) (omega arith)

pub length_filter : (numbered : List ℕ) (filter first count : ℕ) → length (slot_filter numbered filter first count) ≡ 4 * filter
unfolding slot_filter
length_filter numbered filter first count = length_words _ filter

-- a table's filter words behind its head, and its bucket words behind them
pub front_laid : (numbered l : List ℕ) (filter first count at : ℕ) {k m n : List ℕ} {end : ℕ} → k ≡ put_at l at (head_bytes filter count)
    → m ≡ put_at k (at + 8) (slot_filter numbered filter first count)
    → Laid m n (at + 8 + 4 * filter) (words_of (λ b. get_or numbered (slots_from + slot_size * first + 7 + slot_size * b) 0) count) end
    → n ≡ put_at l at (head_bytes filter count ++ (slot_filter numbered filter first count ++ words_of (λ b. slot_bucket numbered (first + b)) count))
front_laid numbered l filter first count at p q laid =
    put_then l at (head_bytes filter count) _ (ap (λ (n : ℕ). at + n) (sym (length_head filter count))) p
    (put_then _ (at + 8) (slot_filter numbered filter first count) _ (ap (λ (n : ℕ). at + 8 + n) (sym (length_filter numbered filter first count))) q
    (rw (words_same _ _ count (λ b _. bucket_is numbered first b)) laid.image_is))

-- ---- a record

length_three : (a b c : ℕ) → length (word a ++ (word b ++ word c)) ≡ 12
length_three a b c =
    length-append (word a) (word b ++ word c) ∙ omega (arith, length-append (word b) (word c), length-spelled 4 a, length-spelled 4 b, length-spelled 4 c)

pub put_three : (l : List ℕ) (to a b c : ℕ) {m n o : List ℕ} → m ≡ put_at l to (word a) → n ≡ put_at m (to + 4) (word b) → o ≡ put_at n (to + 8) (word c)
    → o ≡ put_at l to (word a ++ (word b ++ word c))
put_three l to a b c {m} {n} {o} p q r =
    let two : o ≡ put_at m (to + 4) (word b ++ word c) = put_then m (to + 4) (word b) (word c) (omega (arith, length-spelled 4 b)) q r in
    put_then l to (word a) (word b ++ word c) (ap (λ (k : ℕ). to + k) (sym (length-spelled 4 a))) p two

-- both halves of a record
pub put_record : (filter : ℕ) (numbered l : List ℕ) (s to at start : ℕ) {hash parent size kind stop : ℕ} {m n : List ℕ}
    → hash ≡ slot_hash numbered s → parent ≡ slot_parent numbered s → size ≡ slot_fragment_size numbered s → kind ≡ slot_kind numbered s → stop ≡ start + slot_cover filter numbered s
    → slot_fragment_size numbered s < 65536 → slot_kind numbered s < 256
    → m ≡ put_at l to (word hash ++ (word parent ++ word at)) → n ≡ put_at m (to + 12) (word (size + 65536 * kind) ++ (word start ++ word stop))
    → n ≡ put_at l to (slot_record numbered filter s at start)
unfolding slot_record
put_record filter numbered l s to at start {hash} {parent} {size} {kind} {stop} {m} {n} eh ep es ek et small few p q =
    let front = word (slot_hash numbered s) ++ (word (slot_parent numbered s) ++ word at) in
    let back = (spelled 2 (slot_fragment_size numbered s) ++ (slot_kind numbered s ∷ 0 ∷ [])) ++ (word start ++ word (start + slot_cover filter numbered s)) in
    let p' : m ≡ put_at l to front = rw (← eh, ← ep) p in
    let q' : n ≡ put_at m (to + 12) back = rw (← fourth_word (slot_fragment_size numbered s) (slot_kind numbered s) small few, ← es, ← ek, ← et) q in
    put_then l to front back (ap (λ (k : ℕ). to + k) (sym (length_three (slot_hash numbered s) (slot_parent numbered s) at))) p' q'
    ∙ ap (put_at l to) (simp append_assoc)

-- ---- a fragment

part_end : (numbered arena l : List ℕ) (s at : ℕ) {from size end : ℕ} {m : List ℕ} → from ≡ slot_fragment numbered s → size ≡ slot_fragment_size numbered s
    → slot_fragment numbered s + slot_fragment_size numbered s ≤ length arena → Laid l m at (part arena from size) end → end ≡ at + slot_fragment_size numbered s
part_end numbered arena l s at {from} {size} {end} ef es fits laid =
    let e : end ≡ at + length (part arena (slot_fragment numbered s) (slot_fragment_size numbered s)) = rw (← ef, ← es) laid.end_is in
    e ∙ ap (λ (n : ℕ). at + n) (length_part arena (slot_fragment numbered s) (slot_fragment_size numbered s) fits)

-- and the zeros behind it
pub put_key_lem : (numbered arena l : List ℕ) (s at start : ℕ) {from size end : ℕ} {m n : List ℕ} → from ≡ slot_fragment numbered s → size ≡ slot_fragment_size numbered s
    → slot_fragment numbered s + slot_fragment_size numbered s ≤ length arena → Laid l m at (part arena from size) end → n ≡ put_at m end (zeros (start - end))
    → n ≡ put_at l at (slot_key numbered arena s at start)
unfolding slot_key
put_key_lem numbered arena l s at start {from} {size} {end} {m} {n} ef es fits laid q =
    let bytes = part arena (slot_fragment numbered s) (slot_fragment_size numbered s) in
    let p : m ≡ put_at l at bytes = rw (← ef, ← es) laid.image_is in
    let e : end ≡ at + length bytes = rw (← ef, ← es) laid.end_is in
    let f : end ≡ at + slot_fragment_size numbered s = part_end numbered arena l s at ef es fits laid in
    put_then l at bytes (zeros (start - (at + slot_fragment_size numbered s))) e p (q ∙ ap (λ (k : ℕ). put_at m end (zeros (start - k))) f)

-- ---- a value that is no nested table

module _ (numbered arena : List ℕ) (s : ℕ) where
  pub plain-bytes : slot_kind numbered s ≡ value_kind → plain_value numbered arena s ≡ part arena (slot_value_word numbered s) (slot_value_size numbered s)
  unfolding plain_value pick
  plain-bytes e = rw (eq-eqb (slot_kind numbered s) 118 e)

  pub plain_children : (slot_kind numbered s ≡ value_kind → ⊥) → plain_value numbered arena s ≡ words_of (λ j. child_word numbered (slot_value_word numbered s + j)) (slot_value_size numbered s)
  unfolding plain_value pick
  plain_children n = rw (ne_eqb (slot_kind numbered s) 118 n)

  pub length-bytes : slot_kind numbered s ≡ value_kind → slot_value_word numbered s + slot_value_size numbered s ≤ length arena → length (plain_value numbered arena s) ≡ slot_value_size numbered s
  length-bytes e fits = ap length (plain-bytes e) ∙ length_part arena (slot_value_word numbered s) (slot_value_size numbered s) fits

  pub length_children : (slot_kind numbered s ≡ value_kind → ⊥) → length (plain_value numbered arena s) ≡ 4 * slot_value_size numbered s
  length_children n = ap length (plain_children n) ∙ length_words (λ j. child_word numbered (slot_value_word numbered s + j)) (slot_value_size numbered s)

  pub bytes_laid : {l m : List ℕ} {at start size end : ℕ} → slot_kind numbered s ≡ value_kind → start ≡ slot_value_word numbered s → size ≡ slot_value_size numbered s
      → Laid l m at (part arena start size) end → Laid l m at (plain_value numbered arena s) end
  bytes_laid k e f p = rw (plain-bytes k, ← e, ← f) p

  pub children_laid : {l m : List ℕ} {at start size end : ℕ} → (slot_kind numbered s ≡ value_kind → ⊥) → start ≡ slot_value_word numbered s → size ≡ slot_value_size numbered s
      → Laid l m at (words_of (λ j. get_or numbered (children_from + start + 1 * j) 0) size) end → Laid l m at (plain_value numbered arena s) end
  children_laid {start = start} {size = size} k e f p = rw (plain_children k) (rw (← e, ← f, words_same _ _ size (λ j _. child_is numbered start j)) p)
