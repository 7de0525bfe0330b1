-- Laws about little-endian fields, each once over the width. Callers cite these and not the definitions' text.
use mathlib.Core.Path.{◌≡◌, refl, ap, ◌∙◌}
use mathlib.Core.List.{List, [], ◌∷◌}
use Prim.Native.Nat.{ℕ, zero, suc, ◌+◌, ◌*◌, ◌/◌, ◌^◌, ◌≤◌, ◌<◌}
use native.Mathlib.Nat.{one-le-pow}
use native.Mathlib.Numerals.{add-one}
use native.Mathlib.Omega.{arith}
use mathlib.Core.Bool.{Bool, true, false}
use lib.Dec.{ltb}
use borrow.Author.Tests.{ltb-true, ltb-false}
use lib.ListN.{length, get_or, take, drop, length-take, length-drop, get_or-eq_default}
use lib.Seq.{drop-cons, get_or-take, get_or-drop}
use Rattle.std.proofs.Common.{Fits, w8}
use Rattle.std.specs.Int.{w16, w32, to_le_bytes}
use Rattle.words.specs.Store.{part, put_at}
use Rattle.words.specs.Field.{little_endian, spelled, field, half_at, word_at, long_at}
use Rattle.words.proofs.StoreLaws.{part-put, part-before, part_after, part-part}

-- a field is its first byte and 256 times the field of the others
pub field_step : (n : ℕ) (bytes : List ℕ) (at next : ℕ) → next ≡ at + 1 → at < length bytes
    → field (suc n) bytes at ≡ get_or bytes at 0 + 256 * field n bytes next
unfolding field little_endian
field_step n bytes at next e h = rw (e, add-one, drop-cons bytes at 0)

pub field-none : (bytes : List ℕ) (at : ℕ) → field 0 bytes at ≡ 0
unfolding field little_endian
field-none bytes at = refl

-- a field of two, of four and of eight, byte by byte
pub half_bytes : (bytes : List ℕ) (at : ℕ) → at + 2 ≤ length bytes → half_at bytes at ≡ get_or bytes at 0 + 256 * get_or bytes (at + 1) 0
half_bytes bytes at h =
    omega (
      arith,
      field_step 1 bytes at (at + 1) refl (omega arith),
      field_step 0 bytes (at + 1) (at + 2) (omega arith) (omega arith),
      field-none bytes (at + 2),
    )

pub word_bytes : (bytes : List ℕ) (at : ℕ) → at + 4 ≤ length bytes
    → word_at bytes at ≡ get_or bytes at 0 + 256 * get_or bytes (at + 1) 0 + 65536 * get_or bytes (at + 2) 0 + 16777216 * get_or bytes (at + 3) 0
word_bytes bytes at h =
    omega (
      arith,
      field_step 3 bytes at (at + 1) refl (omega arith),
      field_step 2 bytes (at + 1) (at + 2) (omega arith) (omega arith),
      field_step 1 bytes (at + 2) (at + 3) (omega arith) (omega arith),
      field_step 0 bytes (at + 3) (at + 4) (omega arith) (omega arith),
      field-none bytes (at + 4),
    )

-- a field of eight is two of four
pub long_words : (bytes : List ℕ) (at : ℕ) → at + 8 ≤ length bytes → long_at bytes at ≡ word_at bytes at + 4294967296 * word_at bytes (at + 4)
long_words bytes at h =
    omega (
      arith,
      field_step 7 bytes at (at + 1) refl (omega arith),
      field_step 6 bytes (at + 1) (at + 2) (omega arith) (omega arith),
      field_step 5 bytes (at + 2) (at + 3) (omega arith) (omega arith),
      field_step 4 bytes (at + 3) (at + 4) (omega arith) (omega arith),
      word_bytes bytes at (omega arith),
    )

pub long_bytes : (bytes : List ℕ) (at : ℕ) → at + 8 ≤ length bytes
    → long_at bytes at ≡ get_or bytes at 0 + 256 * get_or bytes (at + 1) 0 + 65536 * get_or bytes (at + 2) 0 + 16777216 * get_or bytes (at + 3) 0 + 4294967296 * get_or bytes (at + 4) 0 + 1099511627776 * get_or bytes (at + 5) 0 + 281474976710656 * get_or bytes (at + 6) 0 + 72057594037927936 * get_or bytes (at + 7) 0
long_bytes bytes at h =
    omega (
      arith,
      field_step 7 bytes at (at + 1) refl (omega arith),
      field_step 6 bytes (at + 1) (at + 2) (omega arith) (omega arith),
      field_step 5 bytes (at + 2) (at + 3) (omega arith) (omega arith),
      field_step 4 bytes (at + 3) (at + 4) (omega arith) (omega arith),
      field_step 3 bytes (at + 4) (at + 5) (omega arith) (omega arith),
      field_step 2 bytes (at + 5) (at + 6) (omega arith) (omega arith),
      field_step 1 bytes (at + 6) (at + 7) (omega arith) (omega arith),
      field_step 0 bytes (at + 7) (at + 8) (omega arith) (omega arith),
      field-none bytes (at + 8),
    )

-- the bytes of a number spell it again
pub length-spelled : (n v : ℕ) → length (spelled n v) ≡ n
unfolding spelled
length-spelled zero v = refl
length-spelled (suc n) v = ap suc (length-spelled n (v / 256))

pub little_endian-spelled : (n v : ℕ) → v < 256 ^ n → little_endian (spelled n v) ≡ v
unfolding little_endian spelled
little_endian-spelled zero v h = omega arith
little_endian-spelled (suc n) v h = omega (arith, little_endian-spelled n (v / 256) (omega arith))

-- what the library spells of 16 bits and of 32
pub spelled_half : (v : ℕ) → to_le_bytes w16 v ≡ spelled 2 v
unfolding spelled
spelled_half v = refl

pub spelled_word : (v : ℕ) → to_le_bytes w32 v ≡ spelled 4 v
unfolding spelled
spelled_word v =
    let b2 : v / 65536 ≡ v / 256 / 256 = omega arith in
    let b3 : v / 16777216 ≡ v / 256 / 256 / 256 = omega arith in
    rw (b2, b3) refl

-- reading where a field was stored
pub field_put : (n : ℕ) (out : List ℕ) (at v : ℕ) → at + n ≤ length out → v < 256 ^ n → field n (put_at out at (spelled n v)) at ≡ v
unfolding field
field_put n out at v fits small =
    ap little_endian (rw (length-spelled n v) at (part-put out at (spelled n v) (rw (length-spelled n v) fits))) ∙ little_endian-spelled n v small

-- reading a field before a store, or behind it
pub field-before : (n : ℕ) (out : List ℕ) (at : ℕ) (vs : List ℕ) (k : ℕ) → k + n ≤ at → field n (put_at out at vs) k ≡ field n out k
unfolding field
field-before n out at vs k h = ap little_endian (part-before out at vs k n h)

pub field_after : (n : ℕ) (out : List ℕ) (at : ℕ) (vs : List ℕ) (k : ℕ) → at + length vs ≤ k → field n (put_at out at vs) k ≡ field n out k
unfolding field
field_after n out at vs k h = ap little_endian (part_after out at vs k n h)

-- a field of a part of a file is a field of the file, further on
pub field-part : (n : ℕ) (bytes : List ℕ) (start size at : ℕ) → at + n ≤ size → field n (part bytes start size) at ≡ field n bytes (start + at)
unfolding field
field-part n bytes start size at h = ap little_endian (part-part bytes start size at n h)

-- what is known of every slice of bytes
pub bytes_below : (l : List ℕ) → ((i : ℕ) → Fits w8 (get_or l i 0)) → (i : ℕ) → get_or l i 0 < 256
bytes_below l fits i = omega (arith, fits i)

-- a field of bytes is below 256 ^ n. What is known of every slice gives `all` (`bytes_below`)
little_endian_below : (bytes : List ℕ) (n : ℕ) → length bytes ≤ n → ((i : ℕ) → get_or bytes i 0 < 256) → little_endian bytes < 256 ^ n
unfolding little_endian
little_endian_below [] n h all = one-le-pow n 256 (omega arith)
little_endian_below (b ∷ bytes) zero h all = absurd (omega arith)
little_endian_below (b ∷ bytes) (suc n) h all = omega (arith, all 0, little_endian_below bytes n (omega arith) (λ i. all (suc i)))

-- a stretch of bytes is bytes
pub stretch_bytes : (n at : ℕ) (bytes : List ℕ) → ((i : ℕ) → get_or bytes i 0 < 256) → (i : ℕ) → get_or (take n (drop at bytes)) i 0 < 256
stretch_bytes n at bytes all i = go (ltb i n) refl
  where
    go : (t : Bool) → ltb i n ≡ t → get_or (take n (drop at bytes)) i 0 < 256
    go true e = let h : i < n = ltb-true i n e in rw (get_or-take n (drop at bytes) i 0, get_or-drop at bytes i 0) (all (at + i))
    go false e =
        let past : length (take n (drop at bytes)) ≤ i = omega (arith, ltb-false i n e, length-take n (drop at bytes)) in
        rw (get_or-eq_default (take n (drop at bytes)) 0 past) (omega arith)

pub field_below : (n : ℕ) (bytes : List ℕ) (at : ℕ) → ((i : ℕ) → get_or bytes i 0 < 256) → field n bytes at < 256 ^ n
unfolding field
field_below n bytes at all =
    little_endian_below (take n (drop at bytes)) n (omega (arith, length-take n (drop at bytes))) (stretch_bytes n at bytes all)

-- ---- a number says which bytes spell it

little_endian_same : (a b : List ℕ) → length a ≡ length b → ((i : ℕ) → get_or a i 0 < 256) → ((i : ℕ) → get_or b i 0 < 256) → little_endian a ≡ little_endian b → a ≡ b
unfolding little_endian
little_endian_same [] [] e ha hb same = refl
little_endian_same [] (y ∷ b) e ha hb same = absurd (omega arith)
little_endian_same (x ∷ a) [] e ha hb same = absurd (omega arith)
little_endian_same (x ∷ a) (y ∷ b) e ha hb same =
    let first : x ≡ y = omega (arith, ha 0, hb 0) in
    let others : little_endian a ≡ little_endian b = omega (arith, ha 0, hb 0) in
    cc (first, little_endian_same a b (omega arith) (λ i. ha (suc i)) (λ i. hb (suc i)) others)

-- stretches of bytes that are one number are the same bytes
pub field_same : (n : ℕ) (a b : List ℕ) (at : ℕ) → at + n ≤ length a → at + n ≤ length b → ((i : ℕ) → get_or a i 0 < 256) → ((i : ℕ) → get_or b i 0 < 256)
    → field n a at ≡ field n b at → part a at n ≡ part b at n
unfolding field
field_same n a b at fa fb ha hb same =
    little_endian_same (take n (drop at a)) (take n (drop at b))
    (omega (arith, length-take n (drop at a), length-take n (drop at b), length-drop at a, length-drop at b))
    (stretch_bytes n at a ha) (stretch_bytes n at b hb) same
