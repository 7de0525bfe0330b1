-- What tables ask of UTF-8: texts joined are a text, behind a whole text the rest is a text, and a text is cut into two where a character starts.
use mathlib.Core.Path.{◌≡◌, refl, sym, ap, ◌∙◌}
use mathlib.Core.Logic.{⊎_elim}
use mathlib.Core.Bool.{Bool, true, false, ◌&&◌, not}
use mathlib.Core.List.{List, [], ◌∷◌, ◌++◌}
use Prim.Native.Nat.{ℕ, zero, suc, ◌+◌, ◌≤◌, ◌<◌}
use native.Mathlib.Omega.{arith}
use lib.ListN.{length, get_or, take, length-append}
use lib.Seq.{length-take-le, take-suc, take-append_seam, get_or-append-add}
use borrow.Author.Tests.{leb-true, le-leb, lt-leb, eqb-true, eq-eqb, ne_eqb}
use lib.Dec.{leb, eqb}
use Rattle.text.specs.Utf8.{between, tail, is_two, starts_three, starts_four, first_of, sequence_len, step_len, one_more, good_from, first_bad, is_utf8, starts_whole}
use Rattle.text.proofs.Utf8Laws.{first_bad-append, valid-append, step_take, bad_here, len_1, len_0, sequence_below}
use Rattle.words.proofs.ChoiceLaws.{both, both_hold, either, clash, lt_or_ge}

valid_rest : (a b : List ℕ) → first_bad a ≡ length a → first_bad (a ++ b) ≡ length (a ++ b) → first_bad b ≡ length b
valid_rest a b e f = omega (arith, first_bad-append a b e, length-append a b)

-- the test holds just where the good part is the whole
pub utf8_whole : (s : List ℕ) → is_utf8 s ≡ true → first_bad s ≡ length s
unfolding is_utf8
utf8_whole s e = eqb-true (first_bad s) (length s) e

pub whole_utf8 : (s : List ℕ) → first_bad s ≡ length s → is_utf8 s ≡ true
unfolding is_utf8
whole_utf8 s e = eq-eqb (first_bad s) (length s) e

-- two texts joined are a text
pub utf8_append : (a b : List ℕ) → is_utf8 a ≡ true → is_utf8 b ≡ true → is_utf8 (a ++ b) ≡ true
utf8_append a b ea eb = whole_utf8 (a ++ b) (valid-append a b (utf8_whole a ea) (utf8_whole b eb))

-- behind a whole text, the rest of a text is a text
pub utf8_rest : (a b : List ℕ) → is_utf8 a ≡ true → is_utf8 (a ++ b) ≡ true → is_utf8 b ≡ true
utf8_rest a b ea e = whole_utf8 b (valid_rest a b (utf8_whole a ea) (utf8_whole (a ++ b) e))

-- ---- the later bytes of a character are tail bytes

between-tail : (low high b : ℕ) → 128 ≤ low → high ≤ 191 → between low high b ≡ true → tail b ≡ true
unfolding tail between
between-tail low high b l h e =
    let p = both (leb low b) (leb b high) e in
    both_hold (le-leb 128 b (omega (arith, leb-true low b p.0))) (le-leb b 191 (omega (arith, leb-true b high p.1)))

two-tail : (a b : ℕ) → is_two a b ≡ true → tail b ≡ true
unfolding is_two
two-tail a b e = (both (between 0xC2 0xDF a) (tail b) e).1

three-tail : (a b : ℕ) → starts_three a b ≡ true → tail b ≡ true
unfolding starts_three
three-tail a b e =
    ⊎_elim (λ p. between-tail 0xA0 0xBF b (omega arith) (omega arith) (both (eqb a 0xE0) (between 0xA0 0xBF b) p).1)
    (λ q. ⊎_elim (λ p. (both (between 0xE1 0xEC a) (tail b) p).1)
    (λ r. ⊎_elim (λ p. between-tail 0x80 0x9F b (omega arith) (omega arith) (both (eqb a 0xED) (between 0x80 0x9F b) p).1)
    (λ p. (both (between 0xEE 0xEF a) (tail b) p).1)
    (either _ _ r)) (either _ _ q)) (either _ _ e)

four_tail : (a b : ℕ) → starts_four a b ≡ true → tail b ≡ true
unfolding starts_four
four_tail a b e =
    ⊎_elim (λ p. between-tail 0x90 0xBF b (omega arith) (omega arith) (both (eqb a 0xF0) (between 0x90 0xBF b) p).1)
    (λ q. ⊎_elim (λ p. (both (between 0xF1 0xF3 a) (tail b) p).1)
    (λ p. between-tail 0x80 0x8F b (omega arith) (omega arith) (both (eqb a 0xF4) (between 0x80 0x8F b) p).1)
    (either _ _ q)) (either _ _ e)

-- which bytes behind the first are tail bytes, by the length
Tails : ℕ → ℕ → ℕ → ℕ → Type 0
Tails n b c d = ((1 < n) → tail b ≡ true) × ((2 < n) → tail c ≡ true) × ((3 < n) → tail d ≡ true)

tails : (p q r s : Bool) (b c d : ℕ) → (q ≡ true → tail b ≡ true) → (r ≡ true → (tail b ≡ true) × (tail c ≡ true))
    → (s ≡ true → (tail b ≡ true) × (tail c ≡ true) × (tail d ≡ true)) → Tails (first_of p q r s) b c d
unfolding first_of Tails
tails true q r s b c d hq hr hs = ((λ h. absurd (omega arith)), (λ h. absurd (omega arith)), (λ h. absurd (omega arith)))
tails false true r s b c d hq hr hs = ((λ h. hq refl), (λ h. absurd (omega arith)), (λ h. absurd (omega arith)))
tails false false true s b c d hq hr hs = ((λ h. (hr refl).0), (λ h. (hr refl).1), (λ h. absurd (omega arith)))
tails false false false true b c d hq hr hs = ((λ h. (hs refl).0), (λ h. (hs refl).1), (λ h. (hs refl).2))
tails false false false false b c d hq hr hs = ((λ h. absurd (omega arith)), (λ h. absurd (omega arith)), (λ h. absurd (omega arith)))

sequence_tails : (a b c d : ℕ) → Tails (sequence_len a b c d) b c d
unfolding sequence_len
sequence_tails a b c d =
    tails (leb a 0x7F) (is_two a b) (starts_three a b && tail c) (starts_four a b && (tail c && tail d)) b c d
    (λ e. two-tail a b e)
    (λ e. let h = both (starts_three a b) (tail c) e in (three-tail a b h.0, h.1))
    (λ e. let h = both (starts_four a b) (tail c && tail d) e in let g = both (tail c) (tail d) h.1 in (four_tail a b h.0, g.0, g.1))

-- byte j of a character, j from 1 on
step_tails : (a : ℕ) (s : List ℕ) (j : ℕ) → suc j < step_len (a ∷ s) → tail (get_or s j 0) ≡ true
unfolding step_len Tails
step_tails a s zero h = (sequence_tails a (get_or s 0 0) (get_or s 1 0) (get_or s 2 0)).0 h
step_tails a s (suc zero) h = (sequence_tails a (get_or s 0 0) (get_or s 1 0) (get_or s 2 0)).1 h
step_tails a s (suc (suc zero)) h = (sequence_tails a (get_or s 0 0) (get_or s 1 0) (get_or s 2 0)).2 h
step_tails a s (suc (suc (suc j))) h = absurd (omega (arith, sequence_below a (get_or s 0 0) (get_or s 1 0) (get_or s 2 0)))

-- ---- a text cut before a byte that is no tail byte, or at its end

-- with k bytes of a character still to pass, the cut lies behind them
Cut : List ℕ → ℕ → Type 0
Cut s k = (e : ℕ) → k ≤ e → e ≤ length s → tail (get_or s e 0) ≡ false → good_from k s ≡ length s → good_from k (take e s) ≡ e

cut_one_more : (b : ℕ) (s : List ℕ) → ((k : ℕ) → Cut s k) → (n : ℕ) → step_len (b ∷ s) ≡ n → (e : ℕ) → e ≤ length s → tail (get_or s e 0) ≡ false
    → one_more n (λ k. good_from k s) ≡ suc (length s) → one_more (step_len (take (suc e) (b ∷ s))) (λ k. good_from k (take e s)) ≡ suc e
unfolding one_more Cut good_from
cut_one_more b s rest zero step e l low good = absurd (omega arith)
cut_one_more b s rest (suc k) step e l low good =
    let behind : k ≤ e = ⊎_elim (λ h. clash (sym (step_tails b s e (omega arith)) ∙ low)) (λ h. h) (lt_or_ge e k) in
    rw (step_take (b ∷ s) (suc e) k step (omega arith)) (ap suc (rest k e behind l low (omega arith)))

cut : (k : ℕ) (s : List ℕ) → Cut s k
unfolding good_from Cut
cut k [] zero h l low good = refl
cut k [] (suc e) h l low good = absurd (omega arith)
cut (suc k) (b ∷ s) zero h l low good = absurd (omega arith)
cut (suc k) (b ∷ s) (suc e) h l low good = ap suc (cut k s e (omega arith) (omega arith) low (omega arith))
cut zero (b ∷ s) zero h l low good = refl
cut zero (b ∷ s) (suc e) h l low good = cut_one_more b s (λ k. cut k s) (step_len (b ∷ s)) refl e (omega arith) low good

valid_front : (s : List ℕ) (e : ℕ) → first_bad s ≡ length s → e ≤ length s → tail (get_or s e 0) ≡ false → first_bad (take e s) ≡ e
unfolding first_bad Cut
valid_front s e good l low = cut 0 s e (omega arith) l low good

utf8_front : (s : List ℕ) (e : ℕ) → is_utf8 s ≡ true → e ≤ length s → tail (get_or s e 0) ≡ false → is_utf8 (take e s) ≡ true
utf8_front s e good l low =
    whole_utf8 (take e s) (valid_front s e (utf8_whole s good) l low ∙ sym (length-take-le e s l))

pub step_ascii : (b : ℕ) (s : List ℕ) → b < 128 → step_len (b ∷ s) ≡ 1
unfolding step_len
step_ascii b s h = sym (len_1 b (get_or s 0 0) (get_or s 1 0) (get_or s 2 0) (omega arith))

one_ascii : (b : ℕ) → b < 128 → is_utf8 (b ∷ []) ≡ true
unfolding is_utf8 first_bad good_from one_more
one_ascii b h = rw (step_ascii b [] h)

no_tail : (b : ℕ) → b < 128 → tail b ≡ false
unfolding tail between
no_tail b h = rw (lt-leb 0x80 b h)

-- a text cut behind a byte below 128 is a text: the prefixes of a key that end at a separator are keys
pub utf8_cut : (s : List ℕ) (e : ℕ) → is_utf8 s ≡ true → e < length s → get_or s e 0 < 128 → is_utf8 (take (suc e) s) ≡ true
utf8_cut s e good l low =
    ap is_utf8 (take-suc s e 0 l)
    ∙ utf8_append (take e s) (get_or s e 0 ∷ []) (utf8_front s e good (omega arith) (no_tail _ low)) (one_ascii _ low)

-- ---- a text that ends in some bytes: they are a text just where they do not start with a tail byte, and then so is what stands before them

below_between : (low high b : ℕ) → b < low → between low high b ≡ false
unfolding between
below_between low high b l = rw (lt-leb low b l)

tail_alone : (b : ℕ) (s : List ℕ) → tail b ≡ true → step_len (b ∷ s) ≡ 0
unfolding step_len tail between is_two starts_three starts_four
tail_alone b s e =
    let p = both (leb 0x80 b) (leb b 0xBF) e in
    let high : 128 ≤ b = leb-true 0x80 b p.0 in
    let low : b ≤ 191 = leb-true b 0xBF p.1 in
    sym (len_0 b (get_or s 0 0) (get_or s 1 0) (get_or s 2 0) (omega arith) (rw (below_between 0xC2 0xDF b (omega arith)))
    (rw (ne_eqb b 0xE0 (omega arith), below_between 0xE1 0xEC b (omega arith), ne_eqb b 0xED (omega arith), below_between 0xEE 0xEF b (omega arith)))
    (rw (ne_eqb b 0xF0 (omega arith), below_between 0xF1 0xF3 b (omega arith), ne_eqb b 0xF4 (omega arith))))

not_is : (q r : Bool) → not q ≡ r → q ≡ not r
not_is true r e = ap not e
not_is false r e = ap not e

tail_first : (s : List ℕ) → starts_whole s ≡ false → is_utf8 s ≡ false
unfolding starts_whole tail between is_utf8
tail_first [] e = clash e
tail_first (b ∷ s) e = ap (λ (n : ℕ). eqb n (length (b ∷ s))) (bad_here (b ∷ s) (tail_alone b s (not_is (tail b) false e))) ∙ ne_eqb 0 (length (b ∷ s)) (omega arith)

module _ (front end : List ℕ) (good : is_utf8 (front ++ end) ≡ true) where
  pub front_text : starts_whole end ≡ true → is_utf8 front ≡ true
  unfolding starts_whole
  front_text e =
      let seam : length front ≡ length front + 0 = omega arith in
      let here : get_or (front ++ end) (length front) 0 ≡ get_or end 0 0 = ap (λ (n : ℕ). get_or (front ++ end) n 0) seam ∙ get_or-append-add front end 0 0 in
      ap is_utf8 (sym (take-append_seam front end))
      ∙ utf8_front (front ++ end) (length front) good (omega (arith, length-append front end)) (ap tail here ∙ not_is (tail (get_or end 0 0)) true e)

  pub end_text : starts_whole end ≡ is_utf8 end
  end_text = by (starts_whole end) refl
    where
      by : (q : Bool) → starts_whole end ≡ q → q ≡ is_utf8 end
      by true e = sym (utf8_rest front end (front_text e) good)
      by false e = sym (tail_first end e)
