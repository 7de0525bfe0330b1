-- How often a number stands in a list, and where.
use mathlib.Core.Path.{◌≡◌, refl}
use mathlib.Core.Logic.{⊎_elim, ◌⊎◌, inl, inr}
use mathlib.Core.List.{List, [], ◌∷◌, ◌++◌}
use Prim.Native.Nat.{ℕ, zero, suc, ◌+◌, ◌≤◌, ◌<◌}
use native.Mathlib.Omega.{arith}
use borrow.Author.Tests.{eq-eqb, ne_eqb}
use lib.ListN.{length, get_or}
use Rattle.words.specs.Choice.{pick}
use Rattle.words.proofs.ChoiceLaws.{eq_or_ne, lt_or_ge}
use Rattle.model.specs.Table.{times, Has}
use Rattle.image.specs.Index.{index_in}
use Rattle.image.specs.Indexing.{Each}

-- ---- how often

pub times_here : (x y : ℕ) (l : List ℕ) → y ≡ x → times x (y ∷ l) ≡ 1 + times x l
unfolding times pick
times_here x y l e = rw (eq-eqb y x e) (omega arith)

pub times_there : (x y : ℕ) (l : List ℕ) → (y ≡ x → ⊥) → times x (y ∷ l) ≡ times x l
unfolding times pick
times_there x y l n = rw (ne_eqb y x n)

pub times_none : (x : ℕ) → times x [] ≡ 0
unfolding times
times_none x = refl

pub times_cons : (x y : ℕ) (l : List ℕ) → times x l ≤ times x (y ∷ l)
times_cons x y l = ⊎_elim (λ e. omega (arith, times_here x y l e)) (λ n. omega (arith, times_there x y l n)) (eq_or_ne y x)

pub times-append : (x : ℕ) (l m : List ℕ) → times x (l ++ m) ≡ times x l + times x m
times-append x [] m = omega (arith, times_none x)
times-append x (y ∷ l) m =
    ⊎_elim
    (λ e. omega (arith, times_here x y (l ++ m) e, times_here x y l e, times-append x l m))
    (λ n. omega (arith, times_there x y (l ++ m) n, times_there x y l n, times-append x l m))
    (eq_or_ne y x)

-- the same in front of equal counts
pub times_cons_same : (x i : ℕ) (l m : List ℕ) → times x l ≡ times x m → times x (i ∷ l) ≡ times x (i ∷ m)
times_cons_same x i l m e =
    ⊎_elim (λ q. omega (arith, times_here x i l q, times_here x i m q)) (λ q. omega (arith, times_there x i l q, times_there x i m q)) (eq_or_ne i x)

-- what stands in a list with one item more in front
pub has_cases : (x y : ℕ) (l : List ℕ) → Has (x ∷ l) y → (x ≡ y) ⊎ Has l y
has_cases x y l h = ⊎_elim (λ e. inl e) (λ n. inr (rw (times_there y x l n) at h)) (eq_or_ne x y)

-- ---- where

-- what stands in a list, stands there at least once
pub times_some : (x : ℕ) (l : List ℕ) (k : ℕ) → k < length l → get_or l k 0 ≡ x → 0 < times x l
times_some x [] k h e = absurd (omega arith)
times_some x (y ∷ l) zero h e = omega (arith, times_here x y l e)
times_some x (y ∷ l) (suc k) h e = omega (arith, times_cons x y l, times_some x l k (omega arith) e)

-- what stands at two indices of a list, stands there twice
pub times-two : (x : ℕ) (l : List ℕ) (j k : ℕ) → j < k → k < length l → get_or l j 0 ≡ x → get_or l k 0 ≡ x → 1 < times x l
times-two x [] j k a h d e = absurd (omega arith)
times-two x (y ∷ l) j zero a h d e = absurd (omega arith)
times-two x (y ∷ l) zero (suc k) a h d e = omega (arith, times_here x y l d, times_some x l k (omega arith) e)
times-two x (y ∷ l) (suc j) (suc k) a h d e = omega (arith, times_cons x y l, times-two x l j k (omega arith) (omega arith) d e)

-- where it first stands
pub record Stands (l : List ℕ) (x : ℕ) : Type 0 where
  pub within : index_in l x < length l
  pub is : get_or l (index_in l x) 0 ≡ x

pub index_stands : (l : List ℕ) (x : ℕ) → Has l x → Stands l x
unfolding index_in times pick
index_stands [] x h = absurd (omega arith)
index_stands (y ∷ l) x h =
    ⊎_elim
    (λ e. record { within = rw (eq-eqb y x e) (omega arith); is = rw (eq-eqb y x e) e })
    (λ n. let s = index_stands l x (rw (times_there x y l n) at h) in
    record { within = rw (ne_eqb y x n) (omega (arith, s.within)); is = rw (ne_eqb y x n) s.is })
    (eq_or_ne y x)

-- where nothing stands twice, one element stands at one index
pub offset_once : (l : List ℕ) → ((x : ℕ) → times x l ≤ 1) → (j k : ℕ) → j < length l → k < length l → get_or l j 0 ≡ get_or l k 0 → j ≡ k
offset_once l one j k a b e =
    ⊎_elim
    (λ less. absurd (omega (arith, one (get_or l k 0), times-two (get_or l k 0) l j k less b e refl)))
    (λ ge. ⊎_elim (λ more. absurd (omega (arith, one (get_or l k 0), times-two (get_or l k 0) l k j more a refl e))) (λ q. omega arith) (lt_or_ge k j))
    (lt_or_ge j k)

-- a list of n in which each number below n stands once, and no other
pub each_once : (n : ℕ) (l : List ℕ) → length l ≡ n → ((x : ℕ) → x < n → times x l ≡ 1) → ((k : ℕ) → k < n → get_or l k 0 < n) → Each n l
each_once n l size one within = record {
  size = size;
  within = within;
  once = λ j k a b e. ⊎_elim
      (λ more. absurd (omega (arith, one (get_or l k 0) (within k b), times-two (get_or l k 0) l j k more (omega arith) e refl)))
      (λ ge. ⊎_elim (λ more. absurd (omega (arith, one (get_or l k 0) (within k b), times-two (get_or l k 0) l k j more (omega arith) refl e))) (λ q. omega arith) (lt_or_ge k j))
      (lt_or_ge j k);
  place = λ x. index_in l x;
  placed = λ x h. let s = index_stands l x (omega (arith, one x h)) in omega (arith, s.within);
  stands = λ x h. (index_stands l x (omega (arith, one x h))).is;
}
