-- Opening a pointer, from document 01, 'Order'.
use Rattle.std.specs.Prelude.{ℕ, ◌%◌, ltb, eqb, Result, Ok, Err}
use Rattle.layout.specs.declared.refusal.Refusal.{Refusal}
use Rattle.words.specs.Choice.{pick}
use Rattle.layout.specs.declared.refusal.Refusal.TheVariants.{PointerOutside, Misaligned}

-- 2 for start above end, then 3, then 2 for end past the file
unfoldable pub open_pointer : ℕ → ℕ → ℕ → ℕ → Result (Unit {0}) Refusal
open_pointer size start end alignment =
    pick (ltb end start) (Err PointerOutside)
    (pick (eqb (start % alignment) 0)
    (pick (ltb size end) (Err PointerOutside) (Ok tt))
    (Err Misaligned))
