-- Laws about UTF-8 texts. Callers cite these and not the definitions' text.
use mathlib.Core.Path.{◌≡◌, refl, sym, ap, ◌∙◌}
use mathlib.Core.Bool.{Bool, true, false, ◌&&◌, and-false}
use mathlib.Core.List.{List, [], ◌∷◌, ◌++◌}
use Prim.Native.Nat.{ℕ, zero, suc, ◌+◌, ◌≤◌, ◌<◌}
use native.Mathlib.Omega.{arith}
use lib.ListN.{length, get_or, take, drop, length-append, length-drop, drop_of_length-le}
use borrow.Author.Tests.{le-leb, lt-leb}
use lib.Seq.{drop-cons, drop-drop, get_or-drop}
use lib.Dec.{leb}
use Rattle.text.specs.Utf8.{between, tail, is_two, starts_three, starts_four, first_of, sequence_len, step_len, one_more, good_from, first_bad}

-- ---- a byte that is missing counts as 0, which continues no character

two-zero : (b0 : ℕ) → is_two b0 0 ≡ false
unfolding is_two tail between
two-zero b0 = simp and-false

three-zero : (b0 : ℕ) → starts_three b0 0 ≡ false
unfolding starts_three tail between
three-zero b0 = simp and-false

four_zero : (b0 : ℕ) → starts_four b0 0 ≡ false
unfolding starts_four tail between
four_zero b0 = simp and-false

-- with one byte, two or three at hand the longer forms are out
one_byte : (b0 : ℕ) → sequence_len b0 0 0 0 ≡ first_of (leb b0 0x7F) false false false
unfolding sequence_len
one_byte b0 = simp (two-zero, three-zero, four_zero)

two_bytes : (b0 b1 : ℕ) → sequence_len b0 b1 0 0 ≡ first_of (leb b0 0x7F) (is_two b0 b1) false false
unfolding sequence_len tail between
two_bytes b0 b1 = simp and-false

three-bytes : (b0 b1 b2 : ℕ) → sequence_len b0 b1 b2 0 ≡ first_of (leb b0 0x7F) (is_two b0 b1) (starts_three b0 b1 && tail b2) false
unfolding sequence_len tail between
three-bytes b0 b1 b2 = simp and-false

-- ---- the choice among the four forms

below_1 : (p : Bool) → first_of p false false false ≤ 1
unfolding first_of
below_1 true = omega arith
below_1 false = omega arith

below_2 : (p q : Bool) → first_of p q false false ≤ 2
unfolding first_of
below_2 true q = omega arith
below_2 false true = omega arith
below_2 false false = omega arith

below_3 : (p q r : Bool) → first_of p q r false ≤ 3
unfolding first_of
below_3 true q r = omega arith
below_3 false true r = omega arith
below_3 false false true = omega arith
below_3 false false false = omega arith

below_4 : (p q r s : Bool) → first_of p q r s ≤ 4
unfolding first_of
below_4 true q r s = omega arith
below_4 false true r s = omega arith
below_4 false false true s = omega arith
below_4 false false false true = omega arith
below_4 false false false false = omega arith

keeps_1 : (p q r s : Bool) (k : ℕ) → first_of p false false false ≡ suc k → first_of p q r s ≡ suc k
unfolding first_of
keeps_1 true q r s k e = e
keeps_1 false q r s k e = absurd (omega arith)

keeps_2 : (p q r s : Bool) (k : ℕ) → first_of p q false false ≡ suc k → first_of p q r s ≡ suc k
unfolding first_of
keeps_2 true q r s k e = e
keeps_2 false true r s k e = e
keeps_2 false false r s k e = absurd (omega arith)

keeps_3 : (p q r s : Bool) (k : ℕ) → first_of p q r false ≡ suc k → first_of p q r s ≡ suc k
unfolding first_of
keeps_3 true q r s k e = e
keeps_3 false true r s k e = e
keeps_3 false false true s k e = e
keeps_3 false false false s k e = absurd (omega arith)

-- ---- one character

pub sequence_below : (b0 b1 b2 b3 : ℕ) → sequence_len b0 b1 b2 b3 ≤ 4
unfolding sequence_len
sequence_below b0 b1 b2 b3 = below_4 _ _ _ _

-- a character lies within the text
pub step_within : (s : List ℕ) → step_len s ≤ length s
unfolding step_len
step_within [] = omega arith
step_within (a ∷ []) = rw (one_byte a) (below_1 _)
step_within (a ∷ b ∷ []) = rw (two_bytes a b) (below_2 _ _)
step_within (a ∷ b ∷ c ∷ []) = rw (three-bytes a b c) (below_3 _ _ _)
step_within (a ∷ b ∷ c ∷ d ∷ s) = omega (arith, sequence_below a b c d)

-- what follows a character has no bearing on it
pub step_append : (s t : List ℕ) (k : ℕ) → step_len s ≡ suc k → step_len (s ++ t) ≡ suc k
unfolding step_len sequence_len
step_append [] t k e = absurd (omega arith)
step_append (a ∷ []) t k e = keeps_1 _ _ _ _ k (sym (one_byte a) ∙ e)
step_append (a ∷ b ∷ []) t k e = keeps_2 _ _ _ _ k (sym (two_bytes a b) ∙ e)
step_append (a ∷ b ∷ c ∷ []) t k e = keeps_3 _ _ _ _ k (sym (three-bytes a b c) ∙ e)
step_append (a ∷ b ∷ c ∷ d ∷ s) t k e = e

-- which form holds, from the tests in their order
pub len_1 : (b0 b1 b2 b3 : ℕ) → b0 ≤ 0x7F → 1 ≡ sequence_len b0 b1 b2 b3
unfolding sequence_len first_of
len_1 b0 b1 b2 b3 h = rw (le-leb b0 0x7F h)

module _ (b0 b1 b2 b3 : ℕ) (long : 0x7F < b0) where
  pub len_2 : is_two b0 b1 ≡ true → 2 ≡ sequence_len b0 b1 b2 b3
  unfolding sequence_len first_of
  len_2 two = rw (lt-leb b0 0x7F long, two)

  pub len_3 : is_two b0 b1 ≡ false → (starts_three b0 b1 && tail b2) ≡ true → 3 ≡ sequence_len b0 b1 b2 b3
  unfolding sequence_len first_of
  len_3 two three = rw (lt-leb b0 0x7F long, two, three)

  pub len_4 : is_two b0 b1 ≡ false → (starts_three b0 b1 && tail b2) ≡ false → (starts_four b0 b1 && (tail b2 && tail b3)) ≡ true → 4 ≡ sequence_len b0 b1 b2 b3
  unfolding sequence_len first_of
  len_4 two three four = rw (lt-leb b0 0x7F long, two, three, four)

  pub len_0 : is_two b0 b1 ≡ false → (starts_three b0 b1 && tail b2) ≡ false → (starts_four b0 b1 && (tail b2 && tail b3)) ≡ false → 0 ≡ sequence_len b0 b1 b2 b3
  unfolding sequence_len first_of
  len_0 two three four = rw (lt-leb b0 0x7F long, two, three, four)

-- the bytes at a position are the first four of what is left there
pub step_at : (s : List ℕ) (at : ℕ) → at < length s
    → sequence_len (get_or s at 0) (get_or s (at + 1) 0) (get_or s (at + 2) 0) (get_or s (at + 3) 0) ≡ step_len (drop at s)
unfolding step_len
step_at s at h =
    let e1 : at + 1 ≡ suc at + 0 = omega arith in
    let e2 : at + 2 ≡ suc at + 1 = omega arith in
    let e3 : at + 3 ≡ suc at + 2 = omega arith in
    rw (drop-cons s at 0, get_or-drop (suc at) s 0 0, get_or-drop (suc at) s 1 0, get_or-drop (suc at) s 2 0, e1, e2, e3)

-- an ASCII byte is a character by itself
pub step_one : (s : List ℕ) (at : ℕ) → at < length s → get_or s at 0 ≤ 0x7F → 1 ≡ step_len (drop at s)
step_one s at h small = len_1 _ (get_or s (at + 1) 0) (get_or s (at + 2) 0) (get_or s (at + 3) 0) small ∙ step_at s at h

pub step_room : (s : List ℕ) (at : ℕ) → at ≤ length s → at + step_len (drop at s) ≤ length s
step_room s at h = omega (arith, step_within (drop at s), length-drop at s)

-- ---- a whole text

-- the bytes of a character that was counted before are passed over
skip_over : (k : ℕ) (s : List ℕ) → k ≤ length s → good_from k s ≡ k + first_bad (drop k s)
unfolding good_from first_bad
skip_over zero s h = omega arith
skip_over (suc k) [] h = absurd (omega arith)
skip_over (suc k) (b ∷ s) h = omega (arith, skip_over k s (omega arith))

-- no character at the front: the text is bad at once (or empty)
pub bad_here : (s : List ℕ) → step_len s ≡ 0 → first_bad s ≡ 0
unfolding good_from first_bad one_more
bad_here [] e = refl
bad_here (b ∷ s) e = rw e

-- a character at the front: the text is good as far as the rest is
pub good_step : (s : List ℕ) (k : ℕ) → step_len s ≡ suc k → first_bad s ≡ suc k + first_bad (drop (suc k) s)
unfolding good_from first_bad one_more step_len
good_step [] k e = absurd (omega arith)
good_step (b ∷ s) k e = rw e (omega (arith, skip_over k s (omega (arith, step_within (b ∷ s)))))

-- one turn of the loop, and its end
pub good_turn : (s : List ℕ) (at step : ℕ) → step ≡ step_len (drop at s) → (step ≡ 0 → ⊥) → first_bad (drop at s) ≡ step + first_bad (drop (at + step) s)
good_turn s at zero e some = absurd (some refl)
good_turn s at (suc k) e some = good_step (drop at s) k (sym e) ∙ ap (λ (l : List ℕ). suc k + first_bad l) (drop-drop (suc k) at s)

pub good_end : (s : List ℕ) (at : ℕ) → length s ≤ at → first_bad (drop at s) ≡ 0
unfolding first_bad good_from
good_end s at h = rw (drop_of_length-le s h)

-- the good part lies within the text
within_one_more : (s : List ℕ) → ((k : ℕ) → good_from k s ≤ length s) → (n : ℕ) → one_more n (λ k. good_from k s) ≤ suc (length s)
unfolding one_more
within_one_more s rest zero = omega arith
within_one_more s rest (suc k) = omega (arith, rest k)

good_within : (k : ℕ) (s : List ℕ) → good_from k s ≤ length s
unfolding good_from
good_within k [] = omega arith
good_within (suc k) (b ∷ s) = omega (arith, good_within k s)
good_within zero (b ∷ s) = within_one_more s (λ k. good_within k s) (step_len (b ∷ s))

pub first_bad_within : (s : List ℕ) → first_bad s ≤ length s
unfolding first_bad
first_bad_within s = good_within 0 s

-- ---- joined texts

-- a good text before another: the whole is good as far as the other is
Appends : List ℕ → List ℕ → ℕ → Type 0
Appends a b k = k ≤ length a → good_from k a ≡ length a → good_from k (a ++ b) ≡ length a + first_bad b

append_one_more : (x : ℕ) (a b : List ℕ) → ((k : ℕ) → Appends a b k) → (n : ℕ) → step_len (x ∷ a) ≡ n → one_more n (λ k. good_from k a) ≡ suc (length a)
    → one_more (step_len (x ∷ a ++ b)) (λ k. good_from k (a ++ b)) ≡ suc (length a) + first_bad b
unfolding one_more Appends
append_one_more x a b rest zero step e = absurd (omega arith)
append_one_more x a b rest (suc k) step e =
    rw (step_append (x ∷ a) b k step) (omega (arith, rest k (omega (arith, step_within (x ∷ a))) (omega arith)))

good_append : (k : ℕ) (a b : List ℕ) → Appends a b k
unfolding good_from first_bad Appends
good_append zero [] b h e = omega arith
good_append (suc k) [] b h e = absurd (omega arith)
good_append (suc k) (x ∷ a) b h e = omega (arith, good_append k a b (omega arith) (omega arith))
good_append zero (x ∷ a) b h e = append_one_more x a b (λ k. good_append k a b) (step_len (x ∷ a)) refl e

pub first_bad-append : (a b : List ℕ) → first_bad a ≡ length a → first_bad (a ++ b) ≡ length a + first_bad b
unfolding first_bad Appends
first_bad-append a b e = good_append 0 a b (omega arith) e

-- two valid texts joined are valid
pub valid-append : (a b : List ℕ) → first_bad a ≡ length a → first_bad b ≡ length b → first_bad (a ++ b) ≡ length (a ++ b)
valid-append a b ea eb = first_bad-append a b ea ∙ rw (eb, length-append a b)

-- ---- what the offset means: the text before it is valid, and no character starts there

-- no character starts where the good part ends
stop_one_more : (b : ℕ) (s : List ℕ) → ((k : ℕ) → k ≤ length s → step_len (drop (good_from k s) s) ≡ 0) → (n : ℕ) → step_len (b ∷ s) ≡ n
    → step_len (drop (one_more n (λ k. good_from k s)) (b ∷ s)) ≡ 0
unfolding one_more
stop_one_more b s rest zero step = step
stop_one_more b s rest (suc k) step = rest k (omega (arith, step_within (b ∷ s)))

good_stops : (k : ℕ) (s : List ℕ) → k ≤ length s → step_len (drop (good_from k s) s) ≡ 0
unfolding good_from step_len
good_stops k [] h = refl
good_stops (suc k) (b ∷ s) h = good_stops k s (omega arith)
good_stops zero (b ∷ s) h = stop_one_more b s (λ k. good_stops k s) (step_len (b ∷ s)) refl

pub bad_stops : (s : List ℕ) → step_len (drop (first_bad s) s) ≡ 0
unfolding first_bad
bad_stops s = good_stops 0 s (omega arith)

-- a character is one in the text cut behind it
cuts_1 : (p q r s : Bool) (k : ℕ) → first_of p q r s ≡ suc k → suc k ≤ 1 → first_of p false false false ≡ suc k
unfolding first_of
cuts_1 true q r s k e h = e
cuts_1 false true r s k e h = absurd (omega arith)
cuts_1 false false true s k e h = absurd (omega arith)
cuts_1 false false false true k e h = absurd (omega arith)
cuts_1 false false false false k e h = absurd (omega arith)

cuts_2 : (p q r s : Bool) (k : ℕ) → first_of p q r s ≡ suc k → suc k ≤ 2 → first_of p q false false ≡ suc k
unfolding first_of
cuts_2 true q r s k e h = e
cuts_2 false true r s k e h = e
cuts_2 false false true s k e h = absurd (omega arith)
cuts_2 false false false true k e h = absurd (omega arith)
cuts_2 false false false false k e h = absurd (omega arith)

cuts_3 : (p q r s : Bool) (k : ℕ) → first_of p q r s ≡ suc k → suc k ≤ 3 → first_of p q r false ≡ suc k
unfolding first_of
cuts_3 true q r s k e h = e
cuts_3 false true r s k e h = e
cuts_3 false false true s k e h = e
cuts_3 false false false true k e h = absurd (omega arith)
cuts_3 false false false false k e h = absurd (omega arith)

pub step_take : (s : List ℕ) (n k : ℕ) → step_len s ≡ suc k → suc k ≤ n → step_len (take n s) ≡ suc k
unfolding step_len sequence_len
step_take [] n k e h = absurd (omega arith)
step_take (a ∷ s) zero k e h = absurd (omega arith)
step_take (a ∷ s) (suc zero) k e h = one_byte a ∙ cuts_1 _ _ _ _ k e h
step_take (a ∷ []) (suc (suc n)) k e h = e
step_take (a ∷ b ∷ s) (suc (suc zero)) k e h = two_bytes a b ∙ cuts_2 _ _ _ _ k e h
step_take (a ∷ b ∷ []) (suc (suc (suc n))) k e h = e
step_take (a ∷ b ∷ c ∷ s) (suc (suc (suc zero))) k e h = three-bytes a b c ∙ cuts_3 _ _ _ _ k e h
step_take (a ∷ b ∷ c ∷ []) (suc (suc (suc (suc n)))) k e h = e
step_take (a ∷ b ∷ c ∷ d ∷ s) (suc (suc (suc (suc n)))) k e h = e

-- the good part by itself is valid
Front : List ℕ → ℕ → Type 0
Front s k = k ≤ length s → good_from k (take (good_from k s) s) ≡ good_from k s

front_one_more : (b : ℕ) (s : List ℕ) → ((k : ℕ) → Front s k) → (n : ℕ) → step_len (b ∷ s) ≡ n
    → good_from 0 (take (one_more n (λ k. good_from k s)) (b ∷ s)) ≡ one_more n (λ k. good_from k s)
unfolding good_from one_more Front
front_one_more b s rest zero step = refl
front_one_more b s rest (suc k) step =
    let within : k ≤ length s = omega (arith, step_within (b ∷ s)) in
    rw (step_take (b ∷ s) (suc (good_from k s)) k step (omega (arith, skip_over k s within))) (ap suc (rest k within))

good_front : (k : ℕ) (s : List ℕ) → Front s k
unfolding good_from Front
good_front k [] h = refl
good_front (suc k) (b ∷ s) h = ap suc (good_front k s (omega arith))
good_front zero (b ∷ s) h = front_one_more b s (λ k. good_front k s) (step_len (b ∷ s)) refl

pub front_valid : (s : List ℕ) → first_bad (take (first_bad s) s) ≡ first_bad s
unfolding first_bad Front
front_valid s = good_front 0 s (omega arith)

-- and that says which offset it is
pub first_bad_unique : (a b : List ℕ) → first_bad a ≡ length a → step_len b ≡ 0 → first_bad (a ++ b) ≡ length a
first_bad_unique a b valid stops = omega (arith, first_bad-append a b valid, bad_here b stops)
