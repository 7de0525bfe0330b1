-- A table's items stand in order of creation: an item made earlier stands earlier.
use mathlib.Core.Path.{◌≡◌, sym, ap, ◌∙◌}
use mathlib.Core.Logic.{⊎_elim}
use mathlib.Core.List.{List, [], ◌∷◌, ◌++◌}
use Prim.Native.Nat.{ℕ, zero, suc, ◌+◌, ◌<◌}
use native.Mathlib.Omega.{arith}
use lib.ListN.{length, get_or, length-append, get_or-append}
use lib.Seq.{get_or_at}
use Rattle.model.specs.Table.{Has}
use Rattle.build_memory.specs.Memory.{item_total, item_table}
use Rattle.image.specs.Index.{index_in}
use Rattle.words.proofs.ChoiceLaws.{eq_or_ne, lt_or_ge}
use Rattle.image.proofs.TimesLaws.{index_stands}
use Rattle.write_numbers.specs.Roster.{state_of}
use Rattle.write_numbers.specs.Fill.{of_table, all_of_table}
use Rattle.write_numbers.proofs.OfTableLaws.{of_table_more, of_table_pass}
use Rattle.write_numbers.proofs.StateLaws.{state_members}

-- indices below n that rise
record Rising (n : ℕ) (l : List ℕ) : Type 0 where
  pub below : (k : ℕ) → k < length l → get_or l k 0 < n
  pub rises : (j k : ℕ) → j < k → k < length l → get_or l j 0 < get_or l k 0

rising_none : (n : ℕ) → Rising n []
rising_none n = record { below = λ k h. absurd (omega arith); rises = λ j k a h. absurd (omega arith) }

rising_later : (n : ℕ) (l : List ℕ) → Rising n l → Rising (suc n) l
rising_later n l r = record { below = λ k h. omega (arith, r.below k h); rises = r.rises }

-- n itself behind them
module _ (n : ℕ) (l : List ℕ) (r : Rising n l) where
  front : (k : ℕ) → k < length l → get_or (l ++ (n ∷ [])) k 0 ≡ get_or l k 0
  front k h = get_or-append l (n ∷ []) 0 k h

  back : (k : ℕ) → k ≡ length l → get_or (l ++ (n ∷ [])) k 0 ≡ n
  back k e = get_or_at l n [] 0 k (sym e)

  snoc_below : (k : ℕ) → k < length (l ++ (n ∷ [])) → get_or (l ++ (n ∷ [])) k 0 < suc n
  snoc_below k h =
      let size : length (l ++ (n ∷ [])) ≡ length l + 1 = length-append l (n ∷ []) in
      ⊎_elim (λ less. omega (arith, front k less, r.below k less)) (λ ge. omega (arith, back k (omega arith))) (lt_or_ge k (length l))

  snoc_rises : (j k : ℕ) → j < k → k < length (l ++ (n ∷ [])) → get_or (l ++ (n ∷ [])) j 0 < get_or (l ++ (n ∷ [])) k 0
  snoc_rises j k a h =
      let size : length (l ++ (n ∷ [])) ≡ length l + 1 = length-append l (n ∷ []) in
      let first : j < length l = omega arith in
      ⊎_elim
      (λ less. omega (arith, front j first, front k less, r.rises j k a less))
      (λ ge. omega (arith, front j first, r.below j first, back k (omega arith)))
      (lt_or_ge k (length l))

  rising_snoc : Rising (suc n) (l ++ (n ∷ []))
  rising_snoc = record { below = snoc_below; rises = snoc_rises }

-- the smaller of two stands before the greater
rising_index : (n : ℕ) (l : List ℕ) → Rising n l → (a b : ℕ) → Has l a → Has l b → a < b → index_in l a < index_in l b
rising_index n l r a b ha hb less =
    let p = index_stands l a ha in
    let q = index_stands l b hb in
    ⊎_elim (λ before. before)
    (λ after. ⊎_elim
    (λ (e : index_in l b ≡ index_in l a). absurd (omega (arith, sym q.is ∙ ap (λ (k : ℕ). get_or l k 0) e ∙ p.is)))
    (λ (ne : index_in l b ≡ index_in l a → ⊥). absurd (omega (arith, p.is, q.is, r.rises (index_in l b) (index_in l a) (omega arith) p.within)))
    (eq_or_ne (index_in l b) (index_in l a)))
    (lt_or_ge (index_in l a) (index_in l b))

module _ (ws ar : List ℕ) (t : ℕ) where
  of_table_rising : (n : ℕ) → Rising n (of_table ws t n)
  unfolding of_table
  of_table_rising zero = rising_none 0
  of_table_rising (suc n) =
      let r = of_table_rising n in
      ⊎_elim (λ e. rw (of_table_more ws t n e) (rising_snoc n (of_table ws t n) r)) (λ ne. rw (of_table_pass ws t n ne) (rising_later n (of_table ws t n) r)) (eq_or_ne (item_table ws n) t)

  pub member_earlier : (a b : ℕ) → Has (state_of ws ar t).members a → Has (state_of ws ar t).members b → a < b
      → index_in (state_of ws ar t).members a < index_in (state_of ws ar t).members b
  unfolding all_of_table
  member_earlier a b = rising_index (item_total ws) (state_of ws ar t).members (rw (state_members ws ar t) (of_table_rising (item_total ws))) a b
