-- The laws of prefix ends.
use Prim.Native.Nat.{ℕ, zero, suc, ◌+◌, ◌-◌, ◌≤◌, ◌<◌}
use native.Mathlib.Numerals.{add-one}
use native.Mathlib.Omega.{arith}
use mathlib.Core.Path.{◌≡◌, refl, sym, ap, ◌∙◌}
use mathlib.Core.Bool.{Bool, true, false}
use mathlib.Core.List.{List, [], ◌∷◌}
use borrow.Author.Tests.{eq-eqb, ne_eqb}
use lib.Dec.{eqb}
use lib.ListN.{length, drop, get_or, length-drop, drop_of_length-le}
use lib.Seq.{drop-cons, drop-drop}
use Rattle.words.specs.Choice.{pick}
use Rattle.key_order.specs.Prefix.{ends_from, ends_past, next_from, next_end}

pub next_here : (sep : ℕ) (k : List ℕ) (i : ℕ) → i < length k → get_or k i 0 ≡ sep → i + 1 ≡ next_end sep k i
unfolding next_end next_from pick
next_here sep k i h e = rw (drop-cons k i 0 h, eq-eqb _ _ e, add-one)

pub next_later : (sep : ℕ) (k : List ℕ) (i : ℕ) → i < length k → (get_or k i 0 ≡ sep → ⊥) → next_end sep k i ≡ next_end sep k (i + 1)
unfolding next_end next_from pick
next_later sep k i h e = rw (drop-cons k i 0 h, ne_eqb _ _ e, add-one)

pub next_end_lem : (sep : ℕ) (k : List ℕ) (i : ℕ) → length k ≤ i → i ≡ next_end sep k i
unfolding next_end next_from pick
next_end_lem sep k i h = simp (drop_of_length-le k h)

pub next_low : (sep at : ℕ) (r : List ℕ) → at ≤ next_from sep at r
unfolding next_from pick
next_low sep at [] = omega arith
next_low sep at (x ∷ r) = by_test (eqb x sep) (next_from sep (suc at) r) (next_low sep (suc at) r)
  where
    by_test : (t : Bool) (n : ℕ) → suc at ≤ n → at ≤ pick t (suc at) n
    by_test true n h = omega arith
    by_test false n h = omega arith

next_high : (sep at : ℕ) (r : List ℕ) → next_from sep at r ≤ at + length r
unfolding next_from pick
next_high sep at [] = omega arith
next_high sep at (x ∷ r) = by_test (eqb x sep) (next_from sep (suc at) r) (next_high sep (suc at) r)
  where
    by_test : (t : Bool) (n : ℕ) → n ≤ suc at + length r → pick t (suc at) n ≤ at + suc (length r)
    by_test true n h = omega arith
    by_test false n h = omega arith

pub next_past : (sep at : ℕ) (x : ℕ) (r : List ℕ) → at < next_from sep at (x ∷ r)
unfolding next_from pick
next_past sep at x r = by_test (eqb x sep) (next_from sep (suc at) r) (next_low sep (suc at) r)
  where
    by_test : (t : Bool) (n : ℕ) → suc at ≤ n → at < pick t (suc at) n
    by_test true n h = omega arith
    by_test false n h = omega arith

-- the ends start with the next one; where that is the list's end there is no more
more_by : (t : Bool) (sep at x y : ℕ) (r : List ℕ) (n : ℕ) → suc at ≤ n
    → (n < suc at + suc (length r) → ends_from sep (suc at) (y ∷ r) ≡ n ∷ ends_from sep n (drop (n - suc at) (y ∷ r)))
    → pick t (suc at) n < at + suc (suc (length r))
    → pick t (suc at ∷ ends_from sep (suc at) (y ∷ r)) (ends_from sep (suc at) (y ∷ r)) ≡ pick t (suc at) n ∷ ends_from sep (pick t (suc at) n) (drop (pick t (suc at) n - at) (x ∷ y ∷ r))
unfolding pick
more_by true sep at x y r n low ih h =
    let e : suc at - at ≡ suc zero = omega arith in
    ap (λ (j : ℕ). suc at ∷ ends_from sep (suc at) (drop j (x ∷ y ∷ r))) (sym e)
more_by false sep at x y r n low ih h =
    let e : n - at ≡ suc (n - suc at) = omega arith in
    ih (omega arith) ∙ ap (λ (j : ℕ). n ∷ ends_from sep n (drop j (x ∷ y ∷ r))) (sym e)

ends_more : (sep at : ℕ) (r : List ℕ) → next_from sep at r < at + length r
    → ends_from sep at r ≡ next_from sep at r ∷ ends_from sep (next_from sep at r) (drop (next_from sep at r - at) r)
unfolding ends_from next_from pick
ends_more sep at [] h = absurd (let g : at < at + 0 = h in omega arith)
ends_more sep at (x ∷ []) h = absurd (by_test (eqb x sep) h)
  where
    by_test : (t : Bool) → pick t (suc at) (suc at) < at + 1 → ⊥
    by_test true g = omega arith
    by_test false g = omega arith
ends_more sep at (x ∷ y ∷ r) h = more_by (eqb x sep) sep at x y r (next_from sep (suc at) (y ∷ r)) (next_low sep (suc at) (y ∷ r)) (ends_more sep (suc at) (y ∷ r)) h

last_by : (t : Bool) (sep at y : ℕ) (r : List ℕ) (n : ℕ)
    → (n ≡ suc at + suc (length r) → ends_from sep (suc at) (y ∷ r) ≡ n ∷ [])
    → pick t (suc at) n ≡ at + suc (suc (length r))
    → pick t (suc at ∷ ends_from sep (suc at) (y ∷ r)) (ends_from sep (suc at) (y ∷ r)) ≡ pick t (suc at) n ∷ []
unfolding pick
last_by true sep at y r n ih h = absurd (let g : suc at ≡ at + suc (suc (length r)) = h in omega arith)
last_by false sep at y r n ih h = ih (omega arith)

ends_last : (sep at : ℕ) (r : List ℕ) → next_from sep at r ≡ at + length r → ends_from sep at r ≡ next_from sep at r ∷ []
unfolding ends_from next_from pick
ends_last sep at [] h = refl
ends_last sep at (x ∷ []) h = by_test (eqb x sep)
  where
    by_test : (t : Bool) → suc at ∷ [] ≡ pick t (suc at) (suc at) ∷ []
    by_test true = refl
    by_test false = refl
ends_last sep at (x ∷ y ∷ r) h = last_by (eqb x sep) sep at y r (next_from sep (suc at) (y ∷ r)) (ends_last sep (suc at) (y ∷ r)) h

module _ (sep : ℕ) (k : List ℕ) (i : ℕ) (h : i ≤ length k) where
  pub next_within : (i ≤ next_end sep k i) × (next_end sep k i ≤ length k)
  unfolding next_end
  next_within = (next_low sep i (drop i k), omega (arith, next_high sep i (drop i k), length-drop i k))

  pub next_rises : i < length k → i < next_end sep k i
  unfolding next_end
  next_rises l = rw (drop-cons k i 0 l) (next_past sep i (get_or k i 0) (drop (suc i) k))

  pub past_more : next_end sep k i < length k → ends_past sep k i ≡ next_end sep k i ∷ ends_past sep k (next_end sep k i)
  unfolding next_end ends_past
  past_more l =
      let n = next_from sep i (drop i k) in
      let low : i ≤ n = next_low sep i (drop i k) in
      let e : i + (n - i) ≡ n = omega arith in
      ends_more sep i (drop i k) (omega (arith, length-drop i k))
      ∙ ap (λ (l : List ℕ). n ∷ ends_from sep n l) (drop-drop (n - i) i k ∙ ap (λ (j : ℕ). drop j k) e)

  pub past_last : next_end sep k i ≡ length k → ends_past sep k i ≡ length k ∷ []
  unfolding next_end ends_past
  past_last l = ends_last sep i (drop i k) (omega (arith, length-drop i k)) ∙ ap (λ (n : ℕ). n ∷ []) l
