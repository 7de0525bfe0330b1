-- The filter's words: each fits four bytes, and has both bits of every item that falls to it.
use Prim.Native.Nat.{ℕ, zero, suc, ◌/◌, ◌%◌, ◌^◌, ◌<◌}
use native.Mathlib.Nat.{eq-or-lt_of_le, le_of_suc-le-suc, mod-lt}
use native.Mathlib.Omega.{arith}
use mathlib.Core.Path.{◌≡◌, sym, ap, ◌∙◌}
use mathlib.Core.Logic.{⊎_elim}
use mathlib.Core.Bool.{true}
use lib.Dec.{eqb}
use borrow.Author.Tests.{eq-eqb}
use Rattle.words.specs.Choice.{pick}
use Rattle.words.specs.Bits.{bit_set, bit_put}
use Rattle.words.proofs.ChoiceLaws.{pick_with}
use Rattle.words.proofs.BitLaws.{bit_kept, bit_put_lem, put_small}
use Rattle.image.specs.Plan.{with_hash, filter_word}

-- both bits of a hash are set in a word that has them, and other bits stay set
hash_first : (w h : ℕ) → bit_set (with_hash w h) (h % 32) ≡ true
unfolding with_hash
hash_first w h = bit_kept (bit_put w (h % 32)) (h / 32 % 32) (h % 32) (bit_put_lem w (h % 32))

hash_second : (w h : ℕ) → bit_set (with_hash w h) (h / 32 % 32) ≡ true
unfolding with_hash
hash_second w h = bit_put_lem (bit_put w (h % 32)) (h / 32 % 32)

hash_kept : (w h b : ℕ) → bit_set w b ≡ true → bit_set (with_hash w h) b ≡ true
unfolding with_hash
hash_kept w h b e = bit_kept (bit_put w (h % 32)) (h / 32 % 32) b (bit_kept w (h % 32) b e)

pub hash_small : (w h : ℕ) → w < 2 ^ 32 → with_hash w h < 2 ^ 32
unfolding with_hash
hash_small w h small = put_small (bit_put w (h % 32)) (h / 32 % 32) (put_small w (h % 32) small (mod-lt h (omega arith))) (mod-lt (h / 32) (omega arith))

module _ (hash : ℕ → ℕ) (filter k : ℕ) where
  -- it fits four bytes
  pub filter_small : (n : ℕ) → filter_word hash filter k n < 2 ^ 32
  unfolding filter_word
  filter_small zero = omega arith
  filter_small (suc n) =
      pick_with (λ (w : ℕ). w < 2 ^ 32) (eqb (hash n / 32 % filter) k) _ _ (λ _. hash_small _ (hash n) (filter_small n)) (λ _. filter_small n)

  -- a bit that every word with item j's bits has, the filter's word of item j has
  filter_keeps : (j n b : ℕ) → j < n → hash j / 32 % filter ≡ k → ((w : ℕ) → bit_set (with_hash w (hash j)) b ≡ true) → bit_set (filter_word hash filter k n) b ≡ true
  unfolding filter_word pick
  filter_keeps j zero b l e own = absurd (omega arith)
  filter_keeps j (suc n) b l e own =
      ⊎_elim
      (λ (same : j ≡ n). rw (eq-eqb (hash n / 32 % filter) k (ap (λ (i : ℕ). hash i / 32 % filter) (sym same) ∙ e))
      (ap (λ (i : ℕ). bit_set (with_hash (filter_word hash filter k n) (hash i)) b) (sym same) ∙ own (filter_word hash filter k n)))
      (λ (less : j < n). pick_with (λ (w : ℕ). bit_set w b ≡ true) (eqb (hash n / 32 % filter) k) (with_hash (filter_word hash filter k n) (hash n)) (filter_word hash filter k n)
      (λ _. hash_kept (filter_word hash filter k n) (hash n) b (filter_keeps j n b less e own)) (λ _. filter_keeps j n b less e own))
      (eq-or-lt_of_le (le_of_suc-le-suc l))

  -- both bits of an item's hash are set in its word
  pub filter_first : (j n : ℕ) → j < n → hash j / 32 % filter ≡ k → bit_set (filter_word hash filter k n) (hash j % 32) ≡ true
  filter_first j n l e = filter_keeps j n (hash j % 32) l e (λ w. hash_first w (hash j))

  pub filter_second : (j n : ℕ) → j < n → hash j / 32 % filter ≡ k → bit_set (filter_word hash filter k n) (hash j / 32 % 32) ≡ true
  filter_second j n l e = filter_keeps j n (hash j / 32 % 32) l e (λ w. hash_second w (hash j))
