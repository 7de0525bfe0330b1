-- Laws of a set of bits: what is in it after an index is put in.
use Prim.Native.Nat.{ℕ, zero, suc, ◌*◌, ◌/◌, ◌%◌, ◌^◌, ◌<◌}
use mathlib.Core.Path.{◌≡◌, refl, ap, ◌∙◌}
use mathlib.Core.List.{List}
use mathlib.Core.Bool.{Bool, true, false}
use native.Mathlib.Omega.{arith}
use native.Mathlib.Nat.{zero-div}
use lib.ListN.{length, get_or, set, length-set, replicate}
use lib.Seq.{get_or-set_same, get_or-set_other}
use lib.Bits.{bit_or, or_zero_r}
use lib.Dec.{eqb}
use borrow.Author.Tests.{eqb-true, eqb-false, eq-eqb}
use Rattle.words.proofs.BitLaws.{one_bit_same, one_bit_other, or_bit, or_one}
use Rattle.check_rules.specs.Bits.{has_bit, with_bit}

-- what is in the set after an index is put in
module _ (bits : List ℕ) (at : ℕ) (h : at < 64 * length bits) where
  pub bit_same : has_bit (with_bit bits at) at ≡ true
  unfolding has_bit with_bit
  bit_same =
      let w = get_or bits (at / 64) 0 in
      let l : at / 64 < length bits = omega arith in
      eq-eqb _ _ (ap (λ (n : ℕ). n / 2 ^ (at % 64) % 2) (get_or-set_same bits (at / 64) _ 0 l)
      ∙ or_bit w (2 ^ (at % 64)) (at % 64) ∙ ap (bit_or (w / 2 ^ (at % 64) % 2)) (one_bit_same (at % 64)) ∙ or_one (w / 2 ^ (at % 64) % 2) (omega arith))

  other_bit : (other : ℕ) → (other ≡ at → ⊥) → get_or (with_bit bits at) (other / 64) 0 / 2 ^ (other % 64) % 2 ≡ get_or bits (other / 64) 0 / 2 ^ (other % 64) % 2
  unfolding with_bit
  other_bit other n = by_case (eqb (other / 64) (at / 64)) refl
    where
      by_case : (t : Bool) → eqb (other / 64) (at / 64) ≡ t
          → get_or (set bits (at / 64) (bit_or (get_or bits (at / 64) 0) (2 ^ (at % 64)))) (other / 64) 0 / 2 ^ (other % 64) % 2 ≡ get_or bits (other / 64) 0 / 2 ^ (other % 64) % 2
      by_case true e =
          let same : other / 64 ≡ at / 64 = eqb-true _ _ e in
          let l : at / 64 < length bits = omega arith in
          let differ : at % 64 ≡ other % 64 → ⊥ = λ f. n (omega arith) in
          let w = get_or bits (at / 64) 0 in
          rw same (ap (λ (m : ℕ). m / 2 ^ (other % 64) % 2) (get_or-set_same bits (at / 64) _ 0 l)
          ∙ or_bit w (2 ^ (at % 64)) (other % 64) ∙ ap (bit_or (w / 2 ^ (other % 64) % 2)) (one_bit_other (at % 64) (other % 64) differ) ∙ or_zero_r _)
      by_case false e = ap (λ (m : ℕ). m / 2 ^ (other % 64) % 2) (get_or-set_other bits (at / 64) (other / 64) _ 0 (eqb-false _ _ e))

  pub bit_other : (other : ℕ) → (other ≡ at → ⊥) → has_bit (with_bit bits at) other ≡ has_bit bits other
  unfolding has_bit
  bit_other other n = ap (λ (m : ℕ). eqb m 1) (other_bit other n)

pub length_bit : (bits : List ℕ) (at : ℕ) → length (with_bit bits at) ≡ length bits
unfolding with_bit
length_bit bits at = length-set bits _ _

-- an array of zeros has no bit set
zeros_at : (n i : ℕ) → ◌≡◌ {A = ℕ} (get_or (replicate n 0) i 0) 0
zeros_at zero i = refl
zeros_at (suc n) zero = refl
zeros_at (suc n) (suc i) = zeros_at n i

pub none_bit_set : (n c : ℕ) → has_bit (replicate n 0) c ≡ false
unfolding has_bit
none_bit_set n c =
    let e : get_or (replicate n 0) (c / 64) 0 / 2 ^ (c % 64) % 2 ≡ 0 =
    ap (λ (w : ℕ). w / 2 ^ (c % 64) % 2) (zeros_at n (c / 64)) ∙ ap (λ (w : ℕ). w % 2) (zero-div (2 ^ (c % 64))) in
    rw e
