-- Laws of a test of every number below a count and of some number below it, for the loops that compute them and for those who read them.
use Prim.Native.Nat.{ℕ, zero, suc, ◌+◌, ◌<◌}
use mathlib.Core.Path.{◌≡◌, refl}
use mathlib.Core.Bool.{Bool, true, false, ◌||◌}
use native.Mathlib.Numerals.{add-one}
use native.Mathlib.Omega.{arith}
use borrow.Author.Count.{below_more}
use Rattle.words.specs.Below.{all_below, some_below}
use Rattle.words.proofs.ChoiceLaws.{both, both_hold}

module _ (test : ℕ → Bool) where
  -- every number below n
  pub all_below_lem : (n : ℕ) → all_below test n ≡ true → (k : ℕ) → k < n → test k ≡ true
  unfolding all_below
  all_below_lem zero e k h = absurd (omega arith)
  all_below_lem (suc n) e k h =
      let parts = both (all_below test n) (test n) e in
      let l : k < n + 1 = omega arith in
      below_more (λ j. test j ≡ true) n (all_below_lem n parts.0) parts.1 k l

  pub below_all : (n : ℕ) → ((k : ℕ) → k < n → test k ≡ true) → all_below test n ≡ true
  unfolding all_below
  below_all zero all = refl
  below_all (suc n) all = both_hold (below_all n (λ k h. all k (omega arith))) (all n (omega arith))

  pub all_fails : (n k : ℕ) → k < n → test k ≡ false → all_below test n ≡ false
  all_fails n k h e = by_case (all_below test n) refl
    where
      by_case : (b : Bool) → all_below test n ≡ b → all_below test n ≡ false
      by_case true all = let clash : test k ≡ true = all_below_lem n all k h in cc
      by_case false none = none

  -- some number below n
  some_more : (n : ℕ) (b : Bool) → (b || test n) ≡ true → (b ≡ true → (k : ℕ) × (k < n) × (test k ≡ true)) → (k : ℕ) × (k < suc n) × (test k ≡ true)
  some_more n true e before = let (k, h, f) = before refl in (k, omega arith, f)
  some_more n false e before = (n, omega arith, e)

  pub some_below_lem : (n : ℕ) → some_below test n ≡ true → (k : ℕ) × (k < n) × (test k ≡ true)
  unfolding some_below
  some_below_lem zero e = let z : ◌≡◌ {A = ℕ} 0 1 = cc in absurd (omega arith)
  some_below_lem (suc n) e = some_more n (some_below test n) e (λ f. some_below_lem n f)

  some_last : (n : ℕ) → test n ≡ true → some_below test (suc n) ≡ true
  unfolding some_below
  some_last n e = by_case (some_below test n)
    where
      by_case : (b : Bool) → (b || test n) ≡ true
      by_case true = refl
      by_case false = e

  some_before : (n : ℕ) → some_below test n ≡ true → some_below test (suc n) ≡ true
  unfolding some_below
  some_before n e = rw e

  pub below_some : (n k : ℕ) → k < n → test k ≡ true → some_below test n ≡ true
  below_some zero k h e = absurd (omega arith)
  below_some (suc n) k h e =
      let l : k < n + 1 = omega arith in
      below_more (λ j. test j ≡ true → some_below test (suc n) ≡ true) n (λ j less f. some_before n (below_some n j less f)) (λ f. some_last n f) k l e

  -- one number more of a search that found none
  pub some_turn : (n : ℕ) → some_below test n ≡ false → test n ≡ false → some_below test (n + 1) ≡ false
  unfolding some_below
  some_turn n e f = rw (add-one, e, f)

  pub all_turn : (n : ℕ) → all_below test n ≡ true → test n ≡ true → all_below test (n + 1) ≡ true
  unfolding all_below
  all_turn n e f = rw (add-one, e, f)
