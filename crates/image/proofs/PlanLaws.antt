-- The words, lengths and offsets of what a plan lays, and what an image that holds it holds at each offset.
use mathlib.Core.Path.{◌≡◌, refl, ap, ◌∙◌}
use mathlib.Core.Logic.{⊎_elim}
use mathlib.Core.List.{List, [], ◌∷◌, ◌++◌}
use Prim.Native.Nat.{ℕ, zero, suc, ◌+◌, ◌-◌, ◌*◌, ◌%◌, ◌/◌, ◌^◌, ◌≤◌, ◌<◌}
use native.Mathlib.Nat.{mod-eq_of_lt, eq-or-lt_of_le, le_of_suc-le-suc}
use native.Mathlib.Numerals.{add-one}
use native.Mathlib.Omega.{arith}
use lib.ListN.{length, length-append}
use Rattle.words.specs.Store.{zeros}
use Rattle.words.specs.Field.{little_endian, spelled, field}
use Rattle.words.specs.Align.{aligned}
use Rattle.words.proofs.StoreLaws.{length-zeros}
use Rattle.words.proofs.FieldLaws.{length-spelled, little_endian-spelled}
use Rattle.layout.specs.Sizes.{chunk_size}
use Rattle.image.specs.Plan.{Plan, word, words_of, first_word, filter_word, filter_bytes, value_start, item_bytes, payload, place, record_bytes, records, plan_bytes}
use Rattle.image.specs.Laid.{Holds}
use Rattle.image.proofs.LaidLaws.{holds_front, holds_back, holds_fits, holds-part}

-- ---- words

pub length_words : (f : ℕ → ℕ) (n : ℕ) → length (words_of f n) ≡ 4 * n
unfolding words_of
length_words f zero = refl
length_words f (suc n) = omega (arith, length-append (words_of f n) (word (f n)), length_words f n, length-spelled 4 (f n))

-- one word more
pub words_more : (f : ℕ → ℕ) (n : ℕ) → words_of f (n + 1) ≡ words_of f n ++ word (f n)
unfolding words_of
words_more f n = rw add-one

pub words_same : (f g : ℕ → ℕ) (n : ℕ) → ((b : ℕ) → b < n → f b ≡ g b) → words_of f n ≡ words_of g n
unfolding words_of
words_same f g zero e = refl
words_same f g (suc n) e = rw (words_same f g n (λ b l. e b (omega arith)), e n (omega arith))

-- a number that is held as so many bytes reads as it is
pub field-held : (n : ℕ) (img : List ℕ) (i x : ℕ) → x < 256 ^ n → Holds img i (spelled n x) → field n img i ≡ x
unfolding field
field-held n img i x small held = ap little_endian (rw (length-spelled n x) at (holds-part img i (spelled n x) held)) ∙ little_endian-spelled n x small

-- one of n words
pub words_held : (img : List ℕ) (f : ℕ → ℕ) (n b at : ℕ) → b < n → Holds img at (words_of f n) → Holds img (at + 4 * b) (word (f b))
unfolding words_of
words_held img f zero b at l h = absurd (omega arith)
words_held img f (suc n) b at l h =
    ⊎_elim
    (λ e. rw e (rw (← length_words f n) (holds_back img at (words_of f n) (word (f n)) h)))
    (λ less. words_held img f n b at less (holds_front img at (words_of f n) (word (f n)) h))
    (eq-or-lt_of_le (le_of_suc-le-suc l))

-- a record's fourth word: key size, kind, and the unused byte
pub fourth_word : (size kind : ℕ) → size < 65536 → kind < 256 → word (size + 65536 * kind) ≡ spelled 2 size ++ (kind ∷ 0 ∷ [])
unfolding spelled
fourth_word size kind small few =
    let a : (size + 65536 * kind) % 256 ≡ size % 256 = omega arith in
    let q : (size + 65536 * kind) / 256 ≡ size / 256 + 256 * kind = omega arith in
    let r : (size / 256 + 256 * kind) % 256 ≡ size / 256 % 256 = omega arith in
    let b : (size + 65536 * kind) / 256 % 256 ≡ size / 256 % 256 = ap (λ (n : ℕ). n % 256) q ∙ r in
    let top : (size + 65536 * kind) / 256 / 256 ≡ kind = omega arith in
    let none : (size + 65536 * kind) / 256 / 256 / 256 ≡ 0 = omega arith in
    let c : (size + 65536 * kind) / 256 / 256 % 256 ≡ kind = ap (λ (n : ℕ). n % 256) top ∙ mod-eq_of_lt few in
    let d : (size + 65536 * kind) / 256 / 256 / 256 % 256 ≡ 0 = ap (λ (n : ℕ). n % 256) none in
    rw (a, b, c, d)

-- ---- lengths and offsets

pub aligned_above : (x a : ℕ) → x ≤ aligned x a
unfolding aligned
aligned_above x a = omega arith

module _ (p : Plan) where
  pub length_record : (k at start : ℕ) → length (record_bytes p k at start) ≡ 24
  unfolding record_bytes spelled
  length_record k at start = refl

  pub length-records : (at k : ℕ) → length (records p at k) ≡ 24 * k
  unfolding records
  length-records at zero = refl
  length-records at (suc k) =
      omega (
        arith,
        length-append (records p at k) (record_bytes p k (place p at k) (value_start p k (place p at k))),
        length-records at k,
        length_record k (place p at k) (value_start p k (place p at k)),
      )

  -- a value starts behind its fragment
  pub value_above : (k at : ℕ) → at + length (p.fragment k) ≤ value_start p k at
  unfolding value_start
  value_above k at = aligned_above (at + length (p.fragment k)) (p.align k)

  -- a fragment with its padding ends where the value starts
  pub length_padded : (k at : ℕ) → at + length (p.fragment k ++ zeros (value_start p k at - (at + length (p.fragment k)))) ≡ value_start p k at
  length_padded k at =
      let pad = value_start p k at - (at + length (p.fragment k)) in
      omega (arith, length-append (p.fragment k) (zeros pad), length-zeros pad, value_above k at)

  -- an item ends where its value does
  pub length-item : (k at : ℕ) → at + length (item_bytes p k at) ≡ value_start p k at + length (p.value k (value_start p k at))
  unfolding item_bytes
  length-item k at =
      let front = p.fragment k ++ zeros (value_start p k at - (at + length (p.fragment k))) in
      omega (arith, length-append front (p.value k (value_start p k at)), length_padded k at)

  pub offset_zero : (at : ℕ) → place p at 0 ≡ at
  unfolding place payload
  offset_zero at = omega arith

  -- and there the next one's key starts
  pub offset_next : (at k : ℕ) → place p at (suc k) ≡ value_start p k (place p at k) + length (p.value k (value_start p k (place p at k)))
  unfolding place payload
  offset_next at k =
      let here = at + length (payload p at k) in
      omega (arith, length-append (payload p at k) (item_bytes p k here), length-item k here)

  pub offset_rises : (at k m : ℕ) → k ≤ m → place p at k ≤ place p at m
  offset_rises at k zero l = let e : k ≡ 0 = omega arith in rw e (omega arith)
  offset_rises at k (suc m) l =
      ⊎_elim
      (λ e. rw e (omega arith))
      (λ less. omega (arith, offset_rises at k m (le_of_suc-le-suc less), offset_next at m, value_above m (place p at m)))
      (eq-or-lt_of_le l)

  -- an item more, and a record more
  pub payload_more : (at k : ℕ) → payload p at (k + 1) ≡ payload p at k ++ item_bytes p k (place p at k)
  unfolding payload place
  payload_more at k = rw add-one

  pub records_more : (at k : ℕ) → records p at (k + 1) ≡ records p at k ++ record_bytes p k (place p at k) (value_start p k (place p at k))
  unfolding records
  records_more at k = rw add-one

  -- the table chunk, and what follows it
  pub length_plan : (at : ℕ) → length (plan_bytes p at) ≡ chunk_size p.filter p.count + length (payload p (at + chunk_size p.filter p.count) p.count)
  unfolding plan_bytes chunk_size
  length_plan at =
      let base = at + (8 + 4 * p.filter + 28 * p.count) in
      let r = records p base p.count in
      let q = payload p base p.count in
      let w = words_of p.first p.count in
      let f = filter_bytes p in
      let h = word (first_word p.filter) ++ word p.count in
      omega (
        arith,
        length-append h (f ++ (w ++ (r ++ q))),
        length-append f (w ++ (r ++ q)),
        length-append w (r ++ q),
        length-append r q,
        length-append (word (first_word p.filter)) (word p.count),
        length-spelled 4 (first_word p.filter),
        length-spelled 4 p.count,
        length_words (λ k. filter_word p.hash p.filter k p.count) p.filter,
        length_words p.first p.count,
        length-records base p.count,
      )

  -- a plan that is laid at `at` ends where a next item would start
  pub plan_end : (at : ℕ) → at + length (plan_bytes p at) ≡ place p (at + chunk_size p.filter p.count) p.count
  unfolding place
  plan_end at = omega (arith, length_plan at)

  -- ---- what is held

  module _ (img : List ℕ) where
    record_held : (at n k r : ℕ) → k < n → Holds img r (records p at n) → Holds img (r + 24 * k) (record_bytes p k (place p at k) (value_start p k (place p at k)))
    unfolding records
    record_held at zero k r l h = absurd (omega arith)
    record_held at (suc n) k r l h =
        ⊎_elim
        (λ e. rw e (rw (← length-records at n) (holds_back img r (records p at n) _ h)))
        (λ less. record_held at n k r less (holds_front img r (records p at n) _ h))
        (eq-or-lt_of_le (le_of_suc-le-suc l))

    item-held : (at n k : ℕ) → k < n → Holds img at (payload p at n) → Holds img (place p at k) (item_bytes p k (place p at k))
    unfolding payload place
    item-held at zero k l h = absurd (omega arith)
    item-held at (suc n) k l h =
        ⊎_elim
        (λ e. rw e (holds_back img at (payload p at n) _ h))
        (λ less. item-held at n k less (holds_front img at (payload p at n) _ h))
        (eq-or-lt_of_le (le_of_suc-le-suc l))

-- ---- a plan that an image holds

module _ (img : List ℕ) (p : Plan) (at : ℕ) (held : Holds img at (plan_bytes p at)) where
  -- where the fragments and values start, where the key and the value of item k start
  abbrev pub base : ℕ
  base = at + chunk_size p.filter p.count

  abbrev pub key_start : ℕ → ℕ
  key_start k = place p base k

  abbrev pub value_from : ℕ → ℕ
  value_from k = value_start p k (key_start k)

  -- the first word, and the filter words
  abbrev pub mark : ℕ
  mark = first_word p.filter

  abbrev pub bits : ℕ → ℕ
  bits k = filter_word p.hash p.filter k p.count

  abbrev rest : List ℕ
  rest = words_of p.first p.count ++ (records p base p.count ++ payload p base p.count)

  parts : Holds img at ((word mark ++ word p.count) ++ (words_of bits p.filter ++ rest))
  unfolding plan_bytes
  parts = held

  head : Holds img at (word mark ++ word p.count)
  head = holds_front img at (word mark ++ word p.count) _ parts

  after_head : Holds img (at + 8) (words_of bits p.filter ++ rest)
  after_head =
      let e : length (word mark ++ word p.count) ≡ 8 = length-append (word mark) (word p.count) ∙ omega (arith, length-spelled 4 mark, length-spelled 4 p.count) in
      rw e at (holds_back img at (word mark ++ word p.count) _ parts)

  after_filter : Holds img (at + 8 + 4 * p.filter) rest
  after_filter = rw (length_words bits p.filter) at (holds_back img (at + 8) (words_of bits p.filter) _ after_head)

  after_buckets : Holds img (at + 8 + 4 * p.filter + 4 * p.count) (records p base p.count ++ payload p base p.count)
  after_buckets = rw (length_words p.first p.count) at (holds_back img (at + 8 + 4 * p.filter) (words_of p.first p.count) _ after_filter)

  after_records : Holds img base (payload p base p.count)
  unfolding chunk_size
  after_records =
      let e : at + 8 + 4 * p.filter + 4 * p.count + length (records p base p.count) ≡ base = omega (arith, length-records p base p.count) in
      rw e at (holds_back img (at + 8 + 4 * p.filter + 4 * p.count) (records p base p.count) _ after_buckets)

  -- the whole lies in the image
  pub end_fits : place p base p.count ≤ length img
  unfolding chunk_size
  end_fits =
      let l : at + length (plan_bytes p at) ≤ length img = holds_fits img at (plan_bytes p at) (omega (arith, length_plan p at)) held in
      omega (arith, l, plan_end p at)

  pub offset_fits : (k : ℕ) → k ≤ p.count → key_start k ≤ length img
  offset_fits k l = omega (arith, end_fits, offset_rises p base k p.count l)

  pub chunk_fits : base ≤ length img
  unfolding place
  chunk_fits = omega (arith, end_fits)

  -- the head's words, a filter word, and a bucket's word
  pub read_mark : p.filter < 2 ^ 27 → field 4 img at ≡ mark
  read_mark few = field-held 4 img at mark (omega arith) (holds_front img at (word mark) _ head)

  pub read_count : p.count < 4294967296 → field 4 img (at + 4) ≡ p.count
  read_count small = field-held 4 img (at + 4) p.count (omega arith) (rw (length-spelled 4 mark) at (holds_back img at (word mark) (word p.count) head))

  pub read_filter : (k : ℕ) → k < p.filter → bits k < 4294967296 → field 4 img (at + 8 + 4 * k) ≡ bits k
  read_filter k l small =
      field-held 4 img (at + 8 + 4 * k) (bits k) (omega arith)
      (words_held img bits p.filter k (at + 8) l (holds_front img (at + 8) (words_of bits p.filter) _ after_head))

  pub read_bucket : (b : ℕ) → b < p.count → p.first b < 4294967296 → field 4 img (at + 8 + 4 * p.filter + 4 * b) ≡ p.first b
  read_bucket b l small =
      field-held 4 img (at + 8 + 4 * p.filter + 4 * b) (p.first b) (omega arith)
      (words_held img p.first p.count b (at + 8 + 4 * p.filter) l (holds_front img (at + 8 + 4 * p.filter) (words_of p.first p.count) _ after_filter))

  -- the record of item k
  pub read_record : (k : ℕ) → k < p.count → Holds img (at + 8 + 4 * p.filter + 4 * p.count + 24 * k) (record_bytes p k (key_start k) (value_from k))
  read_record k l =
      let from = at + 8 + 4 * p.filter + 4 * p.count in
      record_held p img base p.count k from l (holds_front img from (records p base p.count) _ after_buckets)

  read_item : (k : ℕ) → k < p.count → Holds img (key_start k) (item_bytes p k (key_start k))
  read_item k l = item-held p img base p.count k l after_records

  -- its fragment, and its value
  pub read_fragment : (k : ℕ) → k < p.count → Holds img (key_start k) (p.fragment k)
  unfolding item_bytes
  read_fragment k l = holds_front img (key_start k) (p.fragment k) _ (holds_front img (key_start k) _ (p.value k (value_from k)) (read_item k l))

  pub read_value : (k : ℕ) → k < p.count → Holds img (value_from k) (p.value k (value_from k))
  unfolding item_bytes
  read_value k l =
      rw (length_padded p k (key_start k)) at
      (holds_back img (key_start k) (p.fragment k ++ zeros (value_from k - (key_start k + length (p.fragment k)))) (p.value k (value_from k)) (read_item k l))

  pub value_ends : (k : ℕ) → k < p.count → value_from k + length (p.value k (value_from k)) ≤ length img
  value_ends k l = omega (arith, offset_next p base k, offset_fits (suc k) l)

  pub fragment_ends : (k : ℕ) → k < p.count → key_start k + length (p.fragment k) ≤ length img
  fragment_ends k l = omega (arith, value_above p k (key_start k), value_ends k l)
