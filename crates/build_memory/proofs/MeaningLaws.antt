-- The laws of lists by index, which say what a memory means, and of the length of a key.
use Prim.Native.Nat.{ℕ, zero, suc, ◌+◌, ◌≤◌, ◌<◌}
use native.Mathlib.Nat.{eq-or-lt_of_le, le_of_suc-le-suc}
use native.Mathlib.Omega.{arith}
use mathlib.Core.Path.{◌≡◌, refl, ◌∙◌}
use mathlib.Core.Logic.{⊎_elim}
use mathlib.Core.List.{List, [], ◌∷◌}
use lib.ListN.{length, get_or, length-append, get_or-append, get_or-eq_default}
use lib.Seq.{get_or_at}
use Rattle.words.proofs.StoreLaws.{length_part}
use Rattle.build_memory.specs.Memory.{key_start, key_size, key_of}
use Rattle.build_memory.specs.Meaning.{listed}

module _ {A : Type 0} where
  pub length-listed : (f : ℕ → A) (n : ℕ) → length (listed f n) ≡ n
  unfolding listed
  length-listed f zero = refl
  length-listed f (suc n) = omega (arith, length-append (listed f n) (f n ∷ []), length-listed f n)

  pub listed_at : (f : ℕ → A) (d : A) (n i : ℕ) → i < n → get_or (listed f n) i d ≡ f i
  unfolding listed
  listed_at f d zero i h = absurd (omega arith)
  listed_at f d (suc n) i h =
      ⊎_elim
      (λ e. rw e (get_or_at (listed f n) (f n) [] d n (length-listed f n)))
      (λ l. get_or-append (listed f n) (f n ∷ []) d i (omega (arith, length-listed f n)) ∙ listed_at f d n i l)
      (eq-or-lt_of_le (le_of_suc-le-suc h))

  pub listed_past : (f : ℕ → A) (d : A) (n i : ℕ) → n ≤ i → get_or (listed f n) i d ≡ d
  listed_past f d n i h = get_or-eq_default (listed f n) d (omega (arith, length-listed f n))

pub key_length : (ws ar : List ℕ) (i : ℕ) → key_start ws i + key_size ws i ≤ length ar → length (key_of ws ar i) ≡ key_size ws i
unfolding key_of
key_length ws ar i h = length_part ar (key_start ws i) (key_size ws i) h
