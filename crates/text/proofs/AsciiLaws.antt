-- Laws about texts of ASCII bytes: they are UTF-8, and so are their parts.
use mathlib.Core.Path.{◌≡◌, refl, sym, ap, ap₂, ◌∙◌}
use mathlib.Core.Bool.{Bool, true, false, ◌&&◌, and_assoc}
use mathlib.Core.List.{List, [], ◌∷◌, ◌++◌}
use Prim.Native.Nat.{ℕ, zero, suc, ◌+◌, ◌*◌, ◌/◌, ◌%◌, ◌^◌, ◌≤◌, ◌<◌}
use native.Mathlib.Numerals.{add-one}
use native.Mathlib.Omega.{arith}
use lib.ListN.{length, get_or, take, drop, take-append-drop, drop_of_length-le}
use lib.Seq.{drop-cons, take-add, take-take, take_all}
use lib.Dec.{leb, eqb}
use lib.Bits.{bit_and, and_zero_l, and_high, and_block}
use borrow.Author.Tests.{leb-true, leb-false, lt-leb, le-leb, eqb-true, eqb-false, eq-eqb, ne_eqb}
use Rattle.words.specs.Store.{part}
use Rattle.key_hash.specs.Hash.{hash_step, hash_from, hash_by, plain, signed}
use Rattle.words.specs.Field.{little_endian, field}
use Rattle.words.proofs.ChoiceLaws.{both, both_hold}
use Rattle.words.proofs.StoreLaws.{length_part}
use Rattle.key_hash.proofs.HashLaws.{signed_low}
use Rattle.words.proofs.FieldLaws.{stretch_bytes}
use Rattle.text.specs.Ascii.{is_ascii}
use Rattle.text.specs.Utf8.{good_from, first_bad, is_utf8, one_more}
use Rattle.text.proofs.Utf8Parts.{step_ascii, whole_utf8}

-- ASCII is UTF-8
pub ascii_good : (s : List ℕ) → is_ascii s ≡ true → good_from 0 s ≡ length s
unfolding is_ascii good_from one_more
ascii_good [] e = refl
ascii_good (b ∷ s) e =
    let h = both (leb b 0x7F) (is_ascii s) e in
    let low : b < 128 = omega (arith, leb-true b 0x7F h.0) in
    rw (step_ascii b s low) (ap suc (ascii_good s h.1))

pub ascii_utf8 : (s : List ℕ) → is_ascii s ≡ true → is_utf8 s ≡ true
unfolding first_bad
ascii_utf8 s e = whole_utf8 s (ascii_good s e)

-- ---- parts

pub ascii_append : (a b : List ℕ) → is_ascii (a ++ b) ≡ (is_ascii a && is_ascii b)
unfolding is_ascii
ascii_append [] b = refl
ascii_append (x ∷ a) b = ap (λ (t : Bool). leb x 0x7F && t) (ascii_append a b) ∙ sym (and_assoc (leb x 0x7F) (is_ascii a) (is_ascii b))

ascii_split : (n : ℕ) (s : List ℕ) → is_ascii s ≡ (is_ascii (take n s) && is_ascii (drop n s))
ascii_split n s = ap is_ascii (sym (take-append-drop n s)) ∙ ascii_append (take n s) (drop n s)

pub ascii_take : (n : ℕ) (s : List ℕ) → is_ascii s ≡ true → is_ascii (take n s) ≡ true
ascii_take n s e = (both (is_ascii (take n s)) (is_ascii (drop n s)) (sym (ascii_split n s) ∙ e)).0

pub ascii_drop : (n : ℕ) (s : List ℕ) → is_ascii s ≡ true → is_ascii (drop n s) ≡ true
ascii_drop n s e = (both (is_ascii (take n s)) (is_ascii (drop n s)) (sym (ascii_split n s) ∙ e)).1

-- ---- the highest bits of the bytes of a number

-- the number with these bits set, for n bytes
unfoldable pub highest : ℕ → ℕ
highest zero = 0
highest (suc n) = 128 + 256 * highest n

bit_clear : (b : ℕ) → b < 256 → eqb (bit_and b 128) 0 ≡ leb b 0x7F
bit_clear b h = go (leb b 0x7F) refl
  where
    go : (t : Bool) → leb b 0x7F ≡ t → eqb (bit_and b 128) 0 ≡ t
    go true low =
        let none : b / 128 ≡ 0 = omega (arith, leb-true b 0x7F low) in
        let clear : b / 128 % 2 * 128 ≡ 0 = rw none in
        eq-eqb (bit_and b 128) 0 (and_high b 1 7 ∙ clear)
    go false high =
        let one : b / 128 ≡ 1 = omega (arith, h, leb-false b 0x7F high) in
        let set : b / 128 % 2 * 128 ≡ 128 = rw one in
        ne_eqb (bit_and b 128) 0 (λ e. omega (arith, and_high b 1 7 ∙ set))

both_clear : (m b : ℕ) → eqb (m * 256 + b) 0 ≡ (eqb b 0 && eqb m 0)
both_clear m b = go (eqb b 0) (eqb m 0) refl refl
  where
    go : (p q : Bool) → eqb b 0 ≡ p → eqb m 0 ≡ q → eqb (m * 256 + b) 0 ≡ (p && q)
    go true true e f = eq-eqb (m * 256 + b) 0 (omega (arith, eqb-true b 0 e, eqb-true m 0 f))
    go true false e f = ne_eqb (m * 256 + b) 0 (λ z. eqb-false m 0 f (omega arith))
    go false q e f = ne_eqb (m * 256 + b) 0 (λ z. eqb-false b 0 e (omega arith))

clear_ascii : (s : List ℕ) → ((i : ℕ) → get_or s i 0 < 256) → eqb (bit_and (little_endian s) (highest (length s))) 0 ≡ is_ascii s
unfolding little_endian highest is_ascii
clear_ascii [] bytes = eq-eqb (bit_and 0 0) 0 (and_zero_l 0)
clear_ascii (b ∷ s) bytes =
    let low : b < 2 ^ 8 = bytes 0 in
    let whole : b + 256 * little_endian s ≡ little_endian s * 2 ^ 8 + b = omega arith in
    let mask : 128 + 256 * highest (length s) ≡ highest (length s) * 2 ^ 8 + 128 = omega arith in
    ap₂ (λ (x y : ℕ). eqb (bit_and x y) 0) whole mask
    ∙ ap (λ (x : ℕ). eqb x 0) (and_block 8 (little_endian s) (highest (length s)) b 128 low (omega arith))
    ∙ both_clear (bit_and (little_endian s) (highest (length s))) (bit_and b 128)
    ∙ ap₂ (λ (p q : Bool). p && q) (bit_clear b (bytes 0)) (clear_ascii s (λ i. bytes (suc i)))

-- a stretch of n bytes, read as one number
pub field_ascii : (n : ℕ) (s : List ℕ) (at : ℕ) → ((i : ℕ) → get_or s i 0 < 256) → at + n ≤ length s
    → eqb (bit_and (field n s at) (highest n)) 0 ≡ is_ascii (part s at n)
unfolding field
field_ascii n s at bytes h =
    ap (λ (k : ℕ). eqb (bit_and (little_endian (part s at n)) (highest k)) 0) (sym (length_part s at n h))
    ∙ clear_ascii (part s at n) (stretch_bytes n at s bytes)

pub ascii_none : (s : List ℕ) (at : ℕ) → is_ascii (part s at 0) ≡ true
unfolding is_ascii
ascii_none s at = refl

-- ---- the loops

-- a stretch that is not ASCII, and one that is
pub ascii_stop : (s : List ℕ) (i n : ℕ) → is_ascii (part s i n) ≡ false → is_ascii s ≡ false
ascii_stop s i n e = go (is_ascii s) refl
  where
    go : (t : Bool) → is_ascii s ≡ t → is_ascii s ≡ false
    go true whole = whole ∙ sym (ascii_take n (drop i s) (ascii_drop i s whole)) ∙ e
    go false other = other

pub ascii_turn : (s : List ℕ) (i n : ℕ) → is_ascii (take i s) ≡ true → is_ascii (part s i n) ≡ true → is_ascii (take (i + n) s) ≡ true
ascii_turn s i n front here = ap is_ascii (take-add i n s) ∙ ascii_append (take i s) (part s i n) ∙ both_hold front here

-- ASCII up to i: the stretch at the end, which starts at or before i, tells
pub ascii_last : (s : List ℕ) (i last n : ℕ) → last + n ≡ length s → last ≤ i → is_ascii (take i s) ≡ true → is_ascii (part s last n) ≡ is_ascii s
ascii_last s i last n whole reach front = go (is_ascii (part s last n)) refl
  where
    go : (t : Bool) → is_ascii (part s last n) ≡ t → t ≡ is_ascii s
    go true here =
        let shorter : is_ascii (take last s) ≡ true = sym (ap is_ascii (take-take last i s reach)) ∙ ascii_take last (take i s) front in
        sym (ap is_ascii (sym (take_all (last + n) s (omega arith))) ∙ ascii_turn s last n shorter here)
    go false other = sym (ascii_stop s last n other)

-- two stretches cover a text of at most twice their length
pub ascii_two : (n : ℕ) (s : List ℕ) (last : ℕ) → ((i : ℕ) → get_or s i 0 < 256) → last + n ≡ length s → last ≤ n
    → (eqb (bit_and (field n s 0) (highest n)) 0 && eqb (bit_and (field n s last) (highest n)) 0) ≡ is_ascii s
ascii_two n s last bytes whole reach =
    ap₂ (λ (p q : Bool). p && q) (field_ascii n s 0 bytes (omega arith)) (field_ascii n s last bytes (omega arith)) ∙ go (is_ascii (part s 0 n)) refl
  where
    go : (t : Bool) → is_ascii (part s 0 n) ≡ t → (t && is_ascii (part s last n)) ≡ is_ascii s
    go true front = ascii_last s n last n whole reach front
    go false other = sym (ascii_stop s 0 n other)

-- byte by byte
module _ (s : List ℕ) (i : ℕ) (h : i < length s) where
  pub byte_high : 0x7F < get_or s i 0 → is_ascii (drop i s) ≡ false
  unfolding is_ascii
  byte_high high = rw (drop-cons s i 0, lt-leb (get_or s i 0) 0x7F high)

  pub byte_low : get_or s i 0 ≤ 0x7F → is_ascii (drop i s) ≡ is_ascii (drop (i + 1) s)
  unfolding is_ascii
  byte_low low = rw (add-one, drop-cons s i 0, le-leb (get_or s i 0) 0x7F low)

pub bytes_end : (s : List ℕ) (i : ℕ) → length s ≤ i → is_ascii (drop i s) ≡ true
unfolding is_ascii
bytes_end s i h = rw (drop_of_length-le s h)

-- a text of ASCII bytes has one hash in both forms
ascii_from : (s : List ℕ) (h : ℕ) → is_ascii s ≡ true → hash_from signed h s ≡ hash_from plain h s
unfolding hash_from is_ascii
ascii_from [] h e = refl
ascii_from (b ∷ s) h e =
    let parts = both (leb b 0x7F) (is_ascii s) e in
    let low : signed b ≡ b = signed_low b (omega (arith, leb-true b 0x7F parts.0)) in
    ascii_from s (hash_step signed h b) parts.1 ∙ ap (λ (n : ℕ). hash_from plain ((h * 33 + n) % 2 ^ 32) s) low

pub ascii_hash : (s : List ℕ) → is_ascii s ≡ true → hash_by signed s ≡ hash_by plain s
unfolding hash_by
ascii_hash s e = ascii_from s 5381 e
