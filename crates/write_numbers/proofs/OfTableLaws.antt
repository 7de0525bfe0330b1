-- Laws of the items of one table: each stands once, and the slots of all tables are no more than the items.
use Prim.Native.Nat.{ℕ, zero, suc, ◌+◌, ◌≤◌, ◌<◌}
use native.Mathlib.Nat.{eq-or-lt_of_le, le_of_suc-le-suc}
use native.Mathlib.Numerals.{add-one}
use native.Mathlib.Omega.{arith}
use mathlib.Core.Path.{◌≡◌, refl, sym, ap, ◌∙◌}
use mathlib.Core.Logic.{⊎_elim}
use mathlib.Core.List.{List, [], ◌∷◌, ◌++◌}
use borrow.Author.Tests.{eq-eqb, ne_eqb}
use lib.ListN.{length, length-append, set}
use Rattle.words.specs.Choice.{pick}
use Rattle.words.specs.Store.{put_at}
use Rattle.words.proofs.StoreLaws.{put-none, put_snoc}
use Rattle.model.specs.Table.{times, Has}
use Rattle.build_memory.specs.Memory.{item_total, item_table}
use Rattle.words.proofs.ChoiceLaws.{eq_or_ne, lt_or_ge}
use Rattle.image.proofs.TimesLaws.{times_here, times_there, times_none, times-append}
use Rattle.write_numbers.specs.Fill.{of_table, all_of_table, earlier, first_slot_of}

module _ (ws : List ℕ) where
  -- ---- one item more

  pub of_table_more : (t n : ℕ) → item_table ws n ≡ t → of_table ws t (suc n) ≡ of_table ws t n ++ (n ∷ [])
  unfolding of_table pick
  of_table_more t n e = simp (eq-eqb _ _ e)

  pub of_table_pass : (t n : ℕ) → (item_table ws n ≡ t → ⊥) → of_table ws t (suc n) ≡ of_table ws t n
  unfolding of_table pick
  of_table_pass t n e = simp (ne_eqb _ _ e)

  length_more : (t n : ℕ) → item_table ws n ≡ t → length (of_table ws t (suc n)) ≡ length (of_table ws t n) + 1
  length_more t n e = ap length (of_table_more t n e) ∙ length-append (of_table ws t n) (n ∷ [])

  pub length-of_table : (t n : ℕ) → length (of_table ws t n) ≤ n
  unfolding of_table
  length-of_table t zero = omega arith
  length-of_table t (suc n) =
      let more : item_table ws n ≡ t → length (of_table ws t (suc n)) ≤ suc n = λ e. omega (arith, length_more t n e, length-of_table t n) in
      let pass : (item_table ws n ≡ t → ⊥) → length (of_table ws t (suc n)) ≤ suc n = λ e. omega (arith, ap length (of_table_pass t n e), length-of_table t n) in
      ⊎_elim more pass (eq_or_ne (item_table ws n) t)

  -- the loop that collects
  module _ (t : ℕ) (out : List ℕ) where
    pub of_table-start : out ≡ put_at out 0 (of_table ws t 0)
    unfolding of_table
    of_table-start = sym (put-none out 0)

    pub of_table-none : 0 ≡ length (of_table ws t 0)
    unfolding of_table
    of_table-none = refl

    module _ (n i : ℕ) (count : n ≡ length (of_table ws t i)) where
      pub of_table_count : item_table ws i ≡ t → n + 1 ≡ length (of_table ws t (i + 1))
      of_table_count e = let more : n + 1 ≡ length (of_table ws t (suc i)) = omega (arith, length_more t i e) in rw (add-one i) more

      pub of_table-put : item_table ws i ≡ t → set (put_at out 0 (of_table ws t i)) n i ≡ put_at out 0 (of_table ws t (i + 1))
      of_table-put e =
          let at : 0 + length (of_table ws t i) ≡ n = omega arith in
          rw (add-one, of_table_more t i e, put_snoc, at)

      pub of_table_count_pass : (item_table ws i ≡ t → ⊥) → n ≡ length (of_table ws t (i + 1))
      of_table_count_pass e = rw (add-one, of_table_pass t i e) count

      pub of_table-put_pass : (item_table ws i ≡ t → ⊥) → put_at out 0 (of_table ws t i) ≡ put_at out 0 (of_table ws t (i + 1))
      of_table-put_pass e = rw (add-one, of_table_pass t i e)

  -- ---- how often an item stands among them

  times-last : (x t n : ℕ) → item_table ws n ≡ t → times x (of_table ws t (suc n)) ≡ times x (of_table ws t n) + times x (n ∷ [])
  times-last x t n e = ap (times x) (of_table_more t n e) ∙ times-append x (of_table ws t n) (n ∷ [])

  pub of_table_late : (x t n : ℕ) → n ≤ x → times x (of_table ws t n) ≡ 0
  unfolding of_table
  of_table_late x t zero h = times_none x
  of_table_late x t (suc n) h =
      let more : item_table ws n ≡ t → times x (of_table ws t (suc n)) ≡ 0 =
      λ e. omega (arith, times-last x t n e, of_table_late x t n (omega arith), times_there x n [] (λ q. omega arith), times_none x) in
      ⊎_elim more (λ e. ap (times x) (of_table_pass t n e) ∙ of_table_late x t n (omega arith)) (eq_or_ne (item_table ws n) t)

  pub of_table_other : (x t n : ℕ) → (item_table ws x ≡ t → ⊥) → times x (of_table ws t n) ≡ 0
  unfolding of_table
  of_table_other x t zero ne = times_none x
  of_table_other x t (suc n) ne =
      let more : item_table ws n ≡ t → times x (of_table ws t (suc n)) ≡ 0 =
      λ e. omega (arith, times-last x t n e, of_table_other x t n ne, times_there x n [] (λ q. ne (ap (item_table ws) (sym q) ∙ e)), times_none x) in
      ⊎_elim more (λ e. ap (times x) (of_table_pass t n e) ∙ of_table_other x t n ne) (eq_or_ne (item_table ws n) t)

  here_last : (x t n : ℕ) → item_table ws x ≡ t → x ≡ n → times x (of_table ws t (suc n)) ≡ 1
  here_last x t n e q =
      let of-table-n : item_table ws n ≡ t = ap (item_table ws) (sym q) ∙ e in
      omega (arith, times-last x t n of-table-n, of_table_late x t n (omega arith), times_here x n [] (sym q), times_none x)

  here_less : (x t n : ℕ) → x < n → times x (of_table ws t n) ≡ 1 → times x (of_table ws t (suc n)) ≡ 1
  here_less x t n l before =
      let more : item_table ws n ≡ t → times x (of_table ws t (suc n)) ≡ 1 =
      λ f. omega (arith, times-last x t n f, before, times_there x n [] (λ q. omega arith), times_none x) in
      ⊎_elim more (λ f. ap (times x) (of_table_pass t n f) ∙ before) (eq_or_ne (item_table ws n) t)

  pub of_table_here : (x t n : ℕ) → x < n → item_table ws x ≡ t → times x (of_table ws t n) ≡ 1
  of_table_here x t zero h e = absurd (omega arith)
  of_table_here x t (suc n) h e = ⊎_elim (here_last x t n e) (λ l. here_less x t n l (of_table_here x t n l e)) (eq-or-lt_of_le (le_of_suc-le-suc h))

  pub of_table-table : (x t n : ℕ) → Has (of_table ws t n) x → item_table ws x ≡ t
  of_table-table x t n h = ⊎_elim (λ e. e) (λ e. absurd (omega (arith, of_table_other x t n e))) (eq_or_ne (item_table ws x) t)

  pub of_table_below : (x t n : ℕ) → Has (of_table ws t n) x → x < n
  of_table_below x t n h = ⊎_elim (λ l. l) (λ l. absurd (omega (arith, of_table_late x t n l))) (lt_or_ge x n)

  pub of_table_once : (x t n : ℕ) → times x (of_table ws t n) ≤ 1
  of_table_once x t n =
      let here : item_table ws x ≡ t → times x (of_table ws t n) ≤ 1 =
      λ e. ⊎_elim (λ l. omega (arith, of_table_here x t n l e)) (λ l. omega (arith, of_table_late x t n l)) (lt_or_ge x n) in
      ⊎_elim here (λ e. omega (arith, of_table_other x t n e)) (eq_or_ne (item_table ws x) t)

  -- ---- the slots of the tables before one

  earlier_high : (n t : ℕ) → t ≤ item_table ws n → earlier ws (suc n) t ≡ earlier ws n t
  unfolding earlier
  earlier_high n zero h = refl
  earlier_high n (suc t) h =
      let same = ap length (of_table_pass t n (λ e. omega arith)) in
      omega (arith, earlier_high n t (omega arith))

  earlier_more : (n t : ℕ) → earlier ws (suc n) t ≤ earlier ws n t + 1
  unfolding earlier
  earlier_more n zero = omega arith
  earlier_more n (suc t) =
      let more : item_table ws n ≡ t → earlier ws (suc n) t + length (of_table ws t (suc n)) ≤ earlier ws n t + length (of_table ws t n) + 1 =
      λ e. omega (arith, length_more t n e, earlier_high n t (omega arith)) in
      let pass : (item_table ws n ≡ t → ⊥) → earlier ws (suc n) t + length (of_table ws t (suc n)) ≤ earlier ws n t + length (of_table ws t n) + 1 =
      λ e. omega (arith, ap length (of_table_pass t n e), earlier_more n t) in
      ⊎_elim more pass (eq_or_ne (item_table ws n) t)

  earlier-zero : (t : ℕ) → earlier ws 0 t ≡ 0
  unfolding earlier of_table
  earlier-zero zero = refl
  earlier-zero (suc t) = omega (arith, earlier-zero t)

  earlier_few : (n t : ℕ) → earlier ws n t ≤ n
  earlier_few zero t = omega (arith, earlier-zero t)
  earlier_few (suc n) t = omega (arith, earlier_few n t, earlier_more n t)

  pub slot_start_lem : 0 ≡ first_slot_of ws 0
  unfolding first_slot_of earlier
  slot_start_lem = refl

  pub slot_next : (t : ℕ) → first_slot_of ws (t + 1) ≡ first_slot_of ws t + length (all_of_table ws t)
  unfolding first_slot_of earlier all_of_table
  slot_next t = rw add-one

  all_few : (t : ℕ) → first_slot_of ws t ≤ item_total ws
  unfolding first_slot_of
  all_few t = earlier_few (item_total ws) t

  pub slot_few : (t : ℕ) → first_slot_of ws t + length (all_of_table ws t) ≤ item_total ws
  slot_few t = omega (arith, slot_next t, all_few (t + 1))

  pub slot_apart : (t u : ℕ) → t < u → first_slot_of ws t + length (all_of_table ws t) ≤ first_slot_of ws u
  slot_apart t zero h = absurd (omega arith)
  slot_apart t (suc u) h =
      let next : first_slot_of ws (suc u) ≡ first_slot_of ws u + length (all_of_table ws u) = ap (first_slot_of ws) (sym (add-one u)) ∙ slot_next u in
      ⊎_elim (λ e. rw e (omega (arith, next))) (λ l. omega (arith, slot_apart t u l)) (eq-or-lt_of_le (le_of_suc-le-suc h))
