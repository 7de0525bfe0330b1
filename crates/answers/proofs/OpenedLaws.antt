-- The counts of a table that opened are numbers of 32 bits: it lies in a file of at most 16,777,216 bytes.
use Rattle.std.specs.Prelude.{Result, Ok, Err}
use Rattle.layout.specs.declared.table.Table.{Table}
use Rattle.layout.specs.declared.refusal.Refusal.{Refusal}
use mathlib.Core.Path.{◌≡◌, sym}
use mathlib.Core.List.{List}
use Prim.Native.Nat.{ℕ, ◌<◌, ◌^◌}
use native.Mathlib.Omega.{arith}
use Rattle.layout.specs.Table.{open_table}
use Rattle.layout.proofs.OpenLaws.{opened_in_file}
use Rattle.answers.specs.Reading.{opened_count}

pub opened_small : (file : List ℕ) (start end : ℕ) (opened : Result Table Refusal) → opened ≡ open_table file start end
    → (opened_count (λ t. t.count) opened < 2 ^ 32) × (opened_count (λ t. t.buckets) opened < 2 ^ 32) × (opened_count (λ t. t.blooms) opened < 2 ^ 32)
unfolding opened_count
opened_small file start end (Ok t) e =
    let lies = opened_in_file _ _ _ (sym e) in
    (omega (arith, lies.short, lies.head, lies.items), omega (arith, lies.short, lies.head, lies.items), omega (arith, lies.short, lies.head, lies.items))
opened_small file start end (Err why) e = (omega arith, omega arith, omega arith)
