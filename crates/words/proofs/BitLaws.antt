-- Bits of words that are joined: a bit that is set stays set, and a bit that is put is set.
use Prim.Native.Nat.{ℕ, zero, suc, ◌+◌, ◌-◌, ◌/◌, ◌%◌, ◌^◌, ◌<◌, ◌≤◌}
use mathlib.Core.Path.{◌≡◌, refl, ap, ◌∙◌}
use mathlib.Core.Bool.{Bool, true, false}
use native.Mathlib.Omega.{arith}
use native.Mathlib.Nat.{div_self, div-eq_of_lt, pow-suc, mul-mod_left}
use lib.Bits.{bit_or, or_shr, or_mod, or_lt, or_comm}
use lib.Pow.{pow_pos, pow-lt, pow-add, shl-shr}
use lib.Dec.{ltb}
use borrow.Author.Tests.{eq-eqb, eqb-true, ltb-true, ltb-false}
use Rattle.words.specs.Bits.{bit_set, bit_put}

-- a bit of a power of two
pub one_bit_same : (b : ℕ) → 2 ^ b / 2 ^ b % 2 ≡ 1
one_bit_same b = ap (λ (n : ℕ). n % 2) (div_self (pow_pos b))

-- a bit of two words joined
pub or_bit : (a b c : ℕ) → bit_or a b / 2 ^ c % 2 ≡ bit_or (a / 2 ^ c % 2) (b / 2 ^ c % 2)
or_bit a b c = ap (λ (n : ℕ). n % 2) (or_shr a b c) ∙ or_mod (a / 2 ^ c) (b / 2 ^ c) 1

pub or_one : (a : ℕ) → a < 2 → bit_or a 1 ≡ 1
or_one zero h = refl
or_one (suc zero) h = refl
or_one (suc (suc a)) h = absurd (omega arith)

pub bit_kept : (w c b : ℕ) → bit_set w b ≡ true → bit_set (bit_put w c) b ≡ true
unfolding bit_set bit_put
bit_kept w c b e =
    let one : w / 2 ^ b % 2 ≡ 1 = eqb-true (w / 2 ^ b % 2) 1 e in
    let x = 2 ^ c / 2 ^ b % 2 in
    eq-eqb _ _ (or_bit w (2 ^ c) b ∙ ap (λ (n : ℕ). bit_or n x) one ∙ or_comm 1 x ∙ or_one x (omega arith))

pub bit_put_lem : (w b : ℕ) → bit_set (bit_put w b) b ≡ true
unfolding bit_set bit_put
bit_put_lem w b = eq-eqb _ _ (or_bit w (2 ^ b) b ∙ ap (bit_or (w / 2 ^ b % 2)) (one_bit_same b) ∙ or_one (w / 2 ^ b % 2) (omega arith))

-- a word of 32 bits stays one
pub put_small : (w b : ℕ) → w < 2 ^ 32 → b < 32 → bit_put w b < 2 ^ 32
unfolding bit_put
put_small w b small low = or_lt 32 w (2 ^ b) small (pow-lt low)

-- another bit of a power of two
bit_above : (b c : ℕ) → b < c → 2 ^ b / 2 ^ c % 2 ≡ 0
bit_above b c h = ap (λ (n : ℕ). n % 2) (div-eq_of_lt (pow-lt h))

bit_below : (b c : ℕ) → c < b → 2 ^ b / 2 ^ c % 2 ≡ 0
bit_below b c h =
    let d = b - (c + 1) in
    let e : b ≡ suc d + c = omega arith in
    ap (λ (n : ℕ). 2 ^ n / 2 ^ c % 2) e
    ∙ ap (λ (n : ℕ). n / 2 ^ c % 2) (pow-add 2 (suc d) c)
    ∙ ap (λ (n : ℕ). n % 2) (shl-shr (2 ^ suc d) c)
    ∙ ap (λ (n : ℕ). n % 2) (pow-suc 2 d)
    ∙ mul-mod_left (2 ^ d) 2

pub one_bit_other : (b c : ℕ) → (b ≡ c → ⊥) → 2 ^ b / 2 ^ c % 2 ≡ 0
one_bit_other b c n = by_case (ltb b c) refl
  where
    by_case : (t : Bool) → ltb b c ≡ t → 2 ^ b / 2 ^ c % 2 ≡ 0
    by_case true e = bit_above b c (ltb-true b c e)
    by_case false e = let l : c ≤ b = ltb-false b c e in bit_below b c (omega arith)
