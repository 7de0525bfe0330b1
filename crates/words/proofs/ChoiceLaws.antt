-- Laws about a choice by a test, and about tests.
use mathlib.Core.Path.{◌≡◌, refl}
use mathlib.Core.Bool.{Bool, true, false, ◌&&◌, ◌||◌}
use mathlib.Core.Logic.{◌⊎◌, inl, inr}
use Prim.Native.Nat.{ℕ, ◌≤◌, ◌<◌}
use native.Mathlib.Omega.{arith}
use lib.Dec.{eqb, ltb}
use borrow.Author.Tests.{eqb-true, eqb-false, ltb-true, ltb-false}
use Rattle.words.specs.Choice.{pick}

-- what holds of both answers of a choice, each under its test, holds of the choice
pub pick_with : {A : Type 0} (P : A → Type 0) (t : Bool) (a b : A) → (t ≡ true → P a) → (t ≡ false → P b) → P (pick t a b)
unfolding pick
pick_with P true a b ha hb = ha refl
pick_with P false a b ha hb = hb refl

-- the same on either side
pub pick_same : {A : Type 0} (t : Bool) (a : A) → pick t a a ≡ a
unfolding pick
pick_same true a = refl
pick_same false a = refl

pub pick_true : {A : Type 0} {t : Bool} (a b : A) → t ≡ true → pick t a b ≡ a
unfolding pick
pick_true a b e = rw e

pub pick-false : {A : Type 0} {t : Bool} (a b : A) → t ≡ false → pick t a b ≡ b
unfolding pick
pick-false a b e = rw e

-- both parts of a conjunction
pub both : (p q : Bool) → (p && q) ≡ true → (p ≡ true) × (q ≡ true)
both true q e = (refl, e)
both false q e = absurd (let z : ◌≡◌ {A = ℕ} 0 1 = cc in omega arith)

pub both_hold : {p q : Bool} → p ≡ true → q ≡ true → (p && q) ≡ true
both_hold e f = rw (e, f)

pub not_both : (p q : Bool) → (p ≡ true → q ≡ true → ⊥) → (p && q) ≡ false
not_both true true n = absurd (n refl refl)
not_both true false n = refl
not_both false q n = refl

-- one part of a disjunction
pub either : (p q : Bool) → (p || q) ≡ true → (p ≡ true) ⊎ (q ≡ true)
either true q e = inl refl
either false q e = inr e

pub or_one : (p q : Bool) → q ≡ true → (p || q) ≡ true
or_one true q e = refl
or_one false q e = e

-- a test that holds and does not
pub clash : {A : Type 0} → true ≡ false → A
clash e = let z : ◌≡◌ {A = ℕ} 0 1 = cc in absurd (omega arith)

-- two numbers, by a test of them
pub eq_or_ne : (a b : ℕ) → (a ≡ b) ⊎ (a ≡ b → ⊥)
eq_or_ne a b = by (eqb a b) refl
  where
    by : (t : Bool) → eqb a b ≡ t → (a ≡ b) ⊎ (a ≡ b → ⊥)
    by true e = inl (eqb-true a b e)
    by false e = inr (eqb-false a b e)

pub lt_or_ge : (a b : ℕ) → (a < b) ⊎ (b ≤ a)
lt_or_ge a b = by (ltb a b) refl
  where
    by : (t : Bool) → ltb a b ≡ t → (a < b) ⊎ (b ≤ a)
    by true e = inl (ltb-true a b e)
    by false e = inr (ltb-false a b e)
