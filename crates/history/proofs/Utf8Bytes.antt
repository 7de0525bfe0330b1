-- A text that is UTF-8 is of bytes: the grammar bounds each byte of a character, so no element is 256 or more.
use Prim.Native.Nat.{ℕ, zero, suc, ◌<◌}
use native.Mathlib.Nat.{le_of_suc-le-suc, not-suc-le-zero}
use native.Mathlib.Omega.{arith}
use mathlib.Core.Path.{◌≡◌, refl, subst}
use mathlib.Core.Bool.{Bool, true, false, ◌&&◌, ◌||◌}
use mathlib.Core.List.{List, [], ◌∷◌}
use lib.ListN.{length, take, get_or}
use lib.Seq.{length-take-le, get_or-take}
use lib.Dec.{leb, eqb, ltb}
use borrow.Author.Tests.{leb-true, eqb-true, ltb-true, lt-ltb}
use Rattle.words.proofs.ChoiceLaws.{both, both_hold}
use Rattle.text.specs.Utf8.{between, tail, is_two, starts_three, starts_four, first_of, sequence_len, step_len, one_more, good_from, first_bad, is_utf8}
use Rattle.text.proofs.Utf8Laws.{sequence_below}
use Rattle.text.proofs.Utf8Parts.{utf8_whole}
use Rattle.history.specs.Consistent.{is_bytes}

pub byte_at : (k : List ℕ) (i : ℕ) → is_bytes k ≡ true → i < length k → get_or k i 0 < 256
unfolding is_bytes
byte_at [] i h l = absurd (not-suc-le-zero l)
byte_at (b ∷ bs) zero h l = ltb-true b 256 (both (ltb b 256) (is_bytes bs) h).0
byte_at (b ∷ bs) (suc i) h l = byte_at bs i (both (ltb b 256) (is_bytes bs) h).1 (le_of_suc-le-suc l)

-- ---- the bytes of one character

-- the element is below 256
abbrev Low : ℕ → Type 0
Low b = ltb b 256 ≡ true

at_most : (high b : ℕ) → high < 256 → leb b high ≡ true → Low b
at_most high b h e = lt-ltb b 256 (omega (arith, leb-true b high e))

equal_low : (x b : ℕ) → x < 256 → eqb b x ≡ true → Low b
equal_low x b h e = lt-ltb b 256 (omega (arith, eqb-true b x e))

between_low : (low high b : ℕ) → high < 256 → between low high b ≡ true → Low b
unfolding between
between_low low high b h e = at_most high b h (both (leb low b) (leb b high) e).1

tail_low : (b : ℕ) → tail b ≡ true → Low b
unfolding tail
tail_low b e = between_low 0x80 0xBF b (omega arith) e

-- two tests joined, one for each byte
pair_low : (p q : Bool) (a b : ℕ) → (p ≡ true → Low a) → (q ≡ true → Low b) → (p && q) ≡ true → Low a × Low b
pair_low p q a b f g e = let r = both p q e in (f r.0, g r.1)

-- whichever of two tests holds
either : (p q : Bool) (a b : ℕ) → (p ≡ true → Low a × Low b) → (q ≡ true → Low a × Low b) → (p || q) ≡ true → Low a × Low b
either true q a b f g e = f refl
either false q a b f g e = g e

two_low : (a b : ℕ) → is_two a b ≡ true → Low a × Low b
unfolding is_two
two_low a b e = pair_low _ _ a b (between_low 0xC2 0xDF a (omega arith)) (tail_low b) e

three_low : (a b : ℕ) → starts_three a b ≡ true → Low a × Low b
unfolding starts_three
three_low a b e =
    either _ _ a b (pair_low _ _ a b (equal_low 0xE0 a (omega arith)) (between_low 0xA0 0xBF b (omega arith)))
    (either _ _ a b (pair_low _ _ a b (between_low 0xE1 0xEC a (omega arith)) (tail_low b))
    (either _ _ a b (pair_low _ _ a b (equal_low 0xED a (omega arith)) (between_low 0x80 0x9F b (omega arith)))
    (pair_low _ _ a b (between_low 0xEE 0xEF a (omega arith)) (tail_low b)))) e

four_low : (a b : ℕ) → starts_four a b ≡ true → Low a × Low b
unfolding starts_four
four_low a b e =
    either _ _ a b (pair_low _ _ a b (equal_low 0xF0 a (omega arith)) (between_low 0x90 0xBF b (omega arith)))
    (either _ _ a b (pair_low _ _ a b (between_low 0xF1 0xF3 a (omega arith)) (tail_low b))
    (pair_low _ _ a b (equal_low 0xF4 a (omega arith)) (between_low 0x80 0x8F b (omega arith)))) e

-- as many of the bytes in front as the first test that holds says
firsts : (p q r s : Bool) (l : List ℕ) → (p ≡ true → is_bytes (take 1 l) ≡ true) → (q ≡ true → is_bytes (take 2 l) ≡ true)
    → (r ≡ true → is_bytes (take 3 l) ≡ true) → (s ≡ true → is_bytes (take 4 l) ≡ true) → is_bytes (take (first_of p q r s) l) ≡ true
unfolding first_of is_bytes
firsts true q r s l f g h i = f refl
firsts false true r s l f g h i = g refl
firsts false false true s l f g h i = h refl
firsts false false false true l f g h i = i refl
firsts false false false false l f g h i = refl

sequence_bytes : (a b c d : ℕ) → is_bytes (take (sequence_len a b c d) (a ∷ b ∷ c ∷ d ∷ [])) ≡ true
unfolding sequence_len is_bytes
sequence_bytes a b c d =
    firsts (leb a 0x7F) (is_two a b) (starts_three a b && tail c) (starts_four a b && (tail c && tail d)) (a ∷ b ∷ c ∷ d ∷ [])
    (λ e. both_hold (at_most 0x7F a (omega arith) e) refl)
    (λ e. let x = two_low a b e in both_hold x.0 (both_hold x.1 refl))
    (λ e.
    let h = both (starts_three a b) (tail c) e in
    let x = three_low a b h.0 in
    both_hold x.0 (both_hold x.1 (both_hold (tail_low c h.1) refl)))
    (λ e.
    let h = both (starts_four a b) (tail c && tail d) e in
    let x = four_low a b h.0 in
    let y = both (tail c) (tail d) h.1 in
    both_hold x.0 (both_hold x.1 (both_hold (tail_low c y.0) (both_hold (tail_low d y.1) refl))))

sequence_byte : (a b c d j : ℕ) → j < sequence_len a b c d → get_or (a ∷ b ∷ c ∷ d ∷ []) j 0 < 256
sequence_byte a b c d j h =
    let n = sequence_len a b c d in
    let l = a ∷ b ∷ c ∷ d ∷ [] in
    let size = length-take-le n l (sequence_below a b c d) in
    subst (λ (x : ℕ). x < 256) (get_or-take n l j 0 h) (byte_at (take n l) j (sequence_bytes a b c d) (omega arith))

-- byte j of the character in front
step_byte : (a : ℕ) (s : List ℕ) (j : ℕ) → j < step_len (a ∷ s) → get_or (a ∷ s) j 0 < 256
unfolding step_len
step_byte a s zero h = sequence_byte a (get_or s 0 0) (get_or s 1 0) (get_or s 2 0) 0 h
step_byte a s (suc zero) h = sequence_byte a (get_or s 0 0) (get_or s 1 0) (get_or s 2 0) 1 h
step_byte a s (suc (suc zero)) h = sequence_byte a (get_or s 0 0) (get_or s 1 0) (get_or s 2 0) 2 h
step_byte a s (suc (suc (suc zero))) h = sequence_byte a (get_or s 0 0) (get_or s 1 0) (get_or s 2 0) 3 h
step_byte a s (suc (suc (suc (suc j)))) h = absurd (omega (arith, sequence_below a (get_or s 0 0) (get_or s 1 0) (get_or s 2 0)))

-- ---- a whole text

-- with k bytes of a character still to pass, which are below 256
Passes : List ℕ → ℕ → Type 0
Passes s k = ((j : ℕ) → j < k → get_or s j 0 < 256) → good_from k s ≡ length s → is_bytes s ≡ true

passes_one_more : (b : ℕ) (s : List ℕ) → ((k : ℕ) → Passes s k) → (n : ℕ) → step_len (b ∷ s) ≡ n → one_more n (λ k. good_from k s) ≡ suc (length s) → is_bytes (b ∷ s) ≡ true
unfolding one_more is_bytes Passes
passes_one_more b s rest zero step good = absurd (omega arith)
passes_one_more b s rest (suc k) step good =
    both_hold (lt-ltb b 256 (step_byte b s 0 (omega arith))) (rest k (λ j h. step_byte b s (suc j) (omega arith)) (omega arith))

passes : (k : ℕ) (s : List ℕ) → Passes s k
unfolding good_from is_bytes Passes
passes k [] low good = refl
passes (suc k) (b ∷ s) low good = both_hold (lt-ltb b 256 (low 0 (omega arith))) (passes k s (λ j h. low (suc j) (omega arith)) (omega arith))
passes zero (b ∷ s) low good = passes_one_more b s (λ k. passes k s) (step_len (b ∷ s)) refl good

good_bytes : (s : List ℕ) → first_bad s ≡ length s → is_bytes s ≡ true
unfolding first_bad Passes
good_bytes s good = passes 0 s (λ j h. absurd (not-suc-le-zero h)) good

pub utf8_bytes : (k : List ℕ) → is_utf8 k ≡ true → is_bytes k ≡ true
utf8_bytes k text = good_bytes k (utf8_whole k text)
