-- The order of refusals in the document's words: for each number, what was passed before it and what it is given for.
use Rattle.std.specs.Prelude.{Result, Ok, Err}
use Rattle.layout.specs.declared.table.Table.{Table}
use Prim.Native.Nat.{ℕ, ◌+◌, ◌*◌, ◌-◌, ◌%◌, ◌≤◌, ◌<◌}
use mathlib.Core.Path.{◌≡◌, ap, ◌∙◌, subst}
use mathlib.Core.List.{List}
use native.Mathlib.Omega.{arith}
use lib.ListN.{length}
use borrow.Author.Tests.{lt-ltb, le-ltb, eq-eqb, ne_eqb}
use Rattle.words.specs.Choice.{pick}
use Rattle.words.specs.Field.{word_at}
use Rattle.words.specs.Bits.{bloom_count}
use Rattle.words.proofs.ChoiceLaws.{pick_with}
use Rattle.layout.specs.declared.refusal.Refusal.{Refusal}
use Rattle.layout.specs.Refusal.{number}
use Rattle.layout.specs.Pointer.{open_pointer}
use Rattle.layout.specs.Limits.{longest_file}
use Rattle.layout.specs.Table.{table_of, table_in, where_inside, open_table}
use Rattle.layout.specs.Answer.{pointed_number, opened_number}

-- a pointer: 2 for start above end, then 3, then 2 for end past the file
module _ (size start end alignment : ℕ) where
  pub pointer_2_order : end < start → pointed_number (open_pointer size start end alignment) ≡ 2
  unfolding open_pointer pointed_number pick
  pointer_2_order h = simp (lt-ltb end start h)

  module _ (ordered : start ≤ end) where
    pub pointer_3 : (start % alignment ≡ 0 → ⊥) → pointed_number (open_pointer size start end alignment) ≡ 3
    unfolding open_pointer pointed_number pick
    pointer_3 h = simp (le-ltb end start ordered, ne_eqb (start % alignment) 0 h)

    module _ (even : start % alignment ≡ 0) where
      pub pointer_2_past : size < end → pointed_number (open_pointer size start end alignment) ≡ 2
      unfolding open_pointer pointed_number pick
      pointer_2_past h = simp (le-ltb end start ordered, eq-eqb (start % alignment) 0 even, lt-ltb size end h)

      pub pointer_inside_is : end ≤ size → open_pointer size start end alignment ≡ Ok tt
      unfolding open_pointer pick
      pointer_inside_is h = simp (le-ltb end start ordered, eq-eqb (start % alignment) 0 even, le-ltb size end h)

      pub pointer_0 : end ≤ size → pointed_number (open_pointer size start end alignment) ≡ 0
      unfolding pointed_number
      pointer_0 h = ap pointed_number (pointer_inside_is h)

-- a table: 1, the pointer's errors, 4, 5, 6, 7
module _ (file : List ℕ) (start end : ℕ) where
  pub open_1 : longest_file < length file → opened_number (open_table file start end) ≡ 1
  unfolding open_table opened_number pick
  open_1 h = simp (lt-ltb longest_file (length file) h)

  module _ (short : length file ≤ longest_file) where
    pub open_pointer-refused : (n : ℕ) → pointed_number (open_pointer (length file) start end 4) ≡ n → 0 < n → opened_number (open_table file start end) ≡ n
    unfolding open_table opened_number pointed_number pick
    open_pointer-refused n e some = rw (le-ltb longest_file (length file) short) (by_pointer (open_pointer (length file) start end 4) e)
      where
        by_pointer : (p : Result (Unit {0}) Refusal) → pointed_number p ≡ n → opened_number (where_inside p (table_in file start end)) ≡ n
        by_pointer (Ok _) f = absurd (let z : ◌≡◌ {A = ℕ} 0 n = f in omega arith)
        by_pointer (Err why) f = f

    module _ (opens : open_pointer (length file) start end 4 ≡ Ok tt) where
      inside : open_table file start end ≡ table_in file start end
      unfolding open_table pick
      inside = simp (le-ltb longest_file (length file) short, opens)

      pub open_4 : end - start < 8 → opened_number (open_table file start end) ≡ 4
      unfolding table_in opened_number pick
      open_4 h = ap opened_number inside ∙ simp (lt-ltb (end - start) 8 h)

      module _ (long : 8 ≤ end - start) (blooms buckets : ℕ) (first : bloom_count (word_at file start) ≡ blooms) (second : word_at file (start + 4) ≡ buckets) where
        parted : open_table file start end ≡ table_of start (end - start) blooms buckets
        unfolding table_in pick
        parted = inside ∙ simp (le-ltb (end - start) 8 long, first, second)

        pub open_5 : end - start < 8 + 4 * blooms → opened_number (open_table file start end) ≡ 5
        unfolding table_of opened_number pick
        open_5 h = ap opened_number parted ∙ simp (lt-ltb (end - start) (8 + 4 * blooms) h)

        module _ (bloom : 8 + 4 * blooms ≤ end - start) where
          pub open_6 : end - start < 8 + 4 * blooms + 4 * buckets → opened_number (open_table file start end) ≡ 6
          unfolding table_of opened_number pick
          open_6 h = ap opened_number parted ∙ simp (le-ltb (end - start) (8 + 4 * blooms) bloom, lt-ltb (end - start) (8 + 4 * blooms + 4 * buckets) h)

          module _ (bucket : 8 + 4 * blooms + 4 * buckets ≤ end - start) where
            pub open_7 : ((end - start - (8 + 4 * blooms + 4 * buckets)) % 24 ≡ 0 → ⊥) → opened_number (open_table file start end) ≡ 7
            unfolding table_of opened_number pick
            open_7 h = ap opened_number parted ∙ simp (le-ltb (end - start) (8 + 4 * blooms) bloom, le-ltb (end - start) (8 + 4 * blooms + 4 * buckets) bucket, ne_eqb _ _ h)

            pub open_0 : (end - start - (8 + 4 * blooms + 4 * buckets)) % 24 ≡ 0 → opened_number (open_table file start end) ≡ 0
            unfolding table_of opened_number pick
            open_0 h = ap opened_number parted ∙ simp (le-ltb (end - start) (8 + 4 * blooms) bloom, le-ltb (end - start) (8 + 4 * blooms + 4 * buckets) bucket, eq-eqb _ _ h)

-- ---- a pointer is refused with 2 or 3, a table with 1 to 7

pub pointed_below : (size start end alignment : ℕ) → pointed_number (open_pointer size start end alignment) < 4
unfolding open_pointer pointed_number
pointed_below size start end alignment =
    let P : Result (Unit {0}) Refusal → Type 0 = λ p. pointed_number p < 4 in
    pick_with P _ _ _ (λ _. omega arith)
    (λ _. pick_with P _ _ _ (λ _. pick_with P _ _ _ (λ _. omega arith) (λ _. omega arith)) (λ _. omega arith))

table_below : (start size blooms buckets : ℕ) → opened_number (table_of start size blooms buckets) < 8
unfolding table_of opened_number
table_below start size blooms buckets =
    let P : Result Table Refusal → Type 0 = λ o. opened_number o < 8 in
    pick_with P _ _ _ (λ _. omega arith)
    (λ _. pick_with P _ _ _ (λ _. omega arith) (λ _. pick_with P _ _ _ (λ _. omega arith) (λ _. omega arith)))

inside_below : (file : List ℕ) (start end : ℕ) (p : Result (Unit {0}) Refusal) → pointed_number p < 4 → opened_number (where_inside p (table_in file start end)) < 8
unfolding table_in opened_number pointed_number
inside_below file start end (Ok _) h =
    let P : Result Table Refusal → Type 0 = λ o. opened_number o < 8 in
    pick_with P _ _ _ (λ _. omega arith) (λ _. table_below start (end - start) _ _)
inside_below file start end (Err why) h = omega arith

pub opened_below : (file : List ℕ) (start end : ℕ) → opened_number (open_table file start end) < 8
unfolding open_table opened_number
opened_below file start end =
    let P : Result Table Refusal → Type 0 = λ o. opened_number o < 8 in
    pick_with P _ _ _ (λ _. omega arith) (λ _. inside_below file start end _ (pointed_below (length file) start end 4))

pub pointed_low : (size start end alignment : ℕ) {why : Refusal} → open_pointer size start end alignment ≡ Err why → number why < 4
unfolding pointed_number
pointed_low size start end alignment e = subst (λ (p : Result (Unit {0}) Refusal). pointed_number p < 4) e (pointed_below size start end alignment)

pub opened_low : (file : List ℕ) (start end : ℕ) {why : Refusal} → open_table file start end ≡ Err why → number why < 8
unfolding opened_number
opened_low file start end e = subst (λ (o : Result Table Refusal). opened_number o < 8) e (opened_below file start end)
