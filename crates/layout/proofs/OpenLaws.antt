-- What opens lies in the file: a predicate by cases on the answer, shown of the definition test by test.
use Rattle.std.specs.Prelude.{Result, Ok, Err}
use Rattle.layout.specs.declared.refusal.Refusal.{Refusal}
use Prim.Native.Nat.{ℕ, ◌+◌, ◌*◌, ◌-◌, ◌≤◌}
use mathlib.Core.Path.{◌≡◌, subst}
use mathlib.Core.List.{List}
use native.Mathlib.Omega.{arith}
use lib.ListN.{length}
use borrow.Author.Tests.{ltb-false}
use Rattle.words.proofs.ChoiceLaws.{pick_with}
use Rattle.layout.specs.declared.table.Table.{Table}
use Rattle.layout.specs.Pointer.{open_pointer}
use Rattle.layout.specs.Table.{table_of, table_in, where_inside, open_table, InFile}

unfoldable pub PointerFits : ℕ → ℕ → ℕ → Result (Unit {0}) Refusal → Type 0
PointerFits size start end (Ok _) = (start ≤ end) × (end ≤ size)
PointerFits size start end (Err why) = Unit

pub pointer_fits : (size start end alignment : ℕ) → PointerFits size start end (open_pointer size start end alignment)
unfolding open_pointer PointerFits
pointer_fits size start end alignment =
    let P = PointerFits size start end in
    pick_with P _ _ _ (λ _. tt)
    (λ ordered. pick_with P _ _ _
    (λ _. pick_with P _ _ _ (λ _. tt) (λ inside. (ltb-false _ _ ordered, ltb-false _ _ inside)))
    (λ _. tt))

-- a pointer that opens lies in the file
pub pointer_inside : (size start end alignment : ℕ) → open_pointer size start end alignment ≡ Ok tt → (start ≤ end) × (end ≤ size)
unfolding PointerFits
pointer_inside size start end alignment e = subst (PointerFits size start end) e (pointer_fits size start end alignment)

unfoldable pub TableFits : List ℕ → Result Table Refusal → Type 0
TableFits file (Ok t) = InFile file t
TableFits file (Err why) = Unit

table_of_fits : (file : List ℕ) (start size blooms buckets : ℕ) → length file ≤ 16777216 → start + size ≤ length file → TableFits file (table_of start size blooms buckets)
unfolding table_of TableFits
table_of_fits file start size blooms buckets short fits =
    pick_with (TableFits file) _ _ _ (λ _. tt)
    (λ _. pick_with (TableFits file) _ _ _ (λ _. tt)
    (λ room. pick_with (TableFits file) _ _ _
    (λ _. let l : 8 + 4 * blooms + 4 * buckets ≤ size = ltb-false _ _ room in record { short = short; head = omega arith; items = omega arith })
    (λ _. tt)))

table_at_fits : (file : List ℕ) (start end : ℕ) (p : Result (Unit {0}) Refusal) → PointerFits (length file) start end p → length file ≤ 16777216
    → TableFits file (where_inside p (table_in file start end))
unfolding table_in TableFits PointerFits
table_at_fits file start end (Ok _) inside short =
    pick_with (TableFits file) _ _ _ (λ _. tt) (λ _. table_of_fits file start (end - start) _ _ short (omega arith))
table_at_fits file start end (Err why) inside short = tt

pub table_fits : (file : List ℕ) (start end : ℕ) → TableFits file (open_table file start end)
unfolding open_table TableFits
table_fits file start end =
    pick_with (TableFits file) _ _ _ (λ _. tt) (λ short. table_at_fits file start end _ (pointer_fits _ _ _ _) (ltb-false _ _ short))

-- a table that opens lies in the file
pub opened_in_file : (file : List ℕ) (start end : ℕ) {t : Table} → open_table file start end ≡ Ok t → InFile file t
unfolding TableFits
opened_in_file file start end e = subst (TableFits file) e (table_fits file start end)
