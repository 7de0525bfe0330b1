-- What a measure answers, case by case.
use Rattle.std.specs.Prelude.{Option, Some, None}
use mathlib.Core.Path.{◌≡◌}
use mathlib.Core.Logic.{⊎_elim}
use Prim.Native.Nat.{ℕ, ◌≤◌, ◌<◌}
use native.Mathlib.Omega.{arith}
use borrow.Author.Tests.{lt-ltb, le-ltb}
use Rattle.words.specs.Choice.{pick}
use Rattle.layout.specs.Limits.{longest_file}
use Rattle.words.proofs.ChoiceLaws.{lt_or_ge}
use Rattle.write_bytes.specs.Measure.{measured}

pub within : (n : ℕ) → n ≤ longest_file → measured n ≡ Some n
unfolding measured pick
within n h = rw (le-ltb longest_file n h)

pub beyond : (n : ℕ) → longest_file < n → measured n ≡ None
unfolding measured pick
beyond n h = rw (lt-ltb longest_file n h)

-- an end that is measured is the end, and within bounds
pub end_is : (n : ℕ) {m : Option ℕ} → m ≡ measured n → {e : ℕ} → m ≡ Some e → (e ≡ n) × (e ≤ longest_file)
end_is n is {e} p =
    ⊎_elim
    (λ h. let z : ◌≡◌ {A = ℕ} 0 1 = cc (beyond n h) in absurd (omega arith))
    (λ h. let q : e ≡ n = cc (within n h) in (q, omega arith))
    (lt_or_ge longest_file n)

pub long_is : (n : ℕ) {m : Option ℕ} → m ≡ measured n → m ≡ None → longest_file < n
long_is n is p = ⊎_elim (λ h. h) (λ h. let z : ◌≡◌ {A = ℕ} 0 1 = cc (within n h) in absurd (omega arith)) (lt_or_ge longest_file n)
