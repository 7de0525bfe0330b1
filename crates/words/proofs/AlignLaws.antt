-- Alignment: what callers use of `aligned`, for each of the three alignments.
use mathlib.Core.Path.{◌≡◌}
use Prim.Native.Nat.{ℕ, ◌+◌, ◌%◌, ◌≤◌, ◌<◌}
use native.Mathlib.Omega.{arith}
use Rattle.words.specs.declared.align.Alignment.{Alignment}
use Rattle.words.specs.Align.{aligned, alignment_of}

-- an alignment is at least 1 and at most 8
pub alignment_range : (a : Alignment) → (1 ≤ alignment_of a) × (alignment_of a ≤ 8)
alignment_range Alignment.Key = omega arith
alignment_range Alignment.Table = omega arith
alignment_range Alignment.Value = omega arith

-- the least multiple that is not below the offset: a multiple, not below it, and less than one alignment above it
pub aligned_least : (o : ℕ) (a : Alignment) → (aligned o (alignment_of a) % alignment_of a ≡ 0) × (o ≤ aligned o (alignment_of a)) × (aligned o (alignment_of a) < o + alignment_of a)
unfolding aligned
aligned_least o Alignment.Key = omega arith
aligned_least o Alignment.Table = omega arith
aligned_least o Alignment.Value = omega arith
