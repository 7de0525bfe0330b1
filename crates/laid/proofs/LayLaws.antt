-- Each lookup agrees with every number of filter words that a table's first word can name: the Rust's shifts by 0, the strict one by 5.
use Prim.Native.Nat.{ℕ, ◌^◌, ◌<◌}
use native.Mathlib.Omega.{arith}
use mathlib.Core.Path.{◌≡◌, refl}
use mathlib.Core.Logic.{◌⊎◌, inl, inr}
use Rattle.words.specs.Bits.{bloom_shift}
use Rattle.read_find.specs.declared.manner.Lookup.{Lookup}
use Rattle.read_find.specs.Find.{shift_of}
use Rattle.check_table.specs.Strict.{manner_by}
use Rattle.image.specs.Plan.{first_word}
use Rattle.laid.specs.Back.{Lay}

pub shift_agrees : (lookup : Lookup) (filter : ℕ) → filter < 2 ^ 27 → (shift_of lookup (first_word filter) ≡ 0) ⊎ (shift_of lookup (first_word filter) ≡ 5)
unfolding shift_of bloom_shift
shift_agrees Lookup.Rust filter few = inl refl
shift_agrees Lookup.Strict filter few = inr (omega arith)

abbrev pub lay_of : (rule : ℕ → ℕ) (lookup : Lookup) (filter : ℕ) → filter < 2 ^ 27 → Lay
lay_of rule lookup filter few = record { manner = manner_by rule lookup; filter = filter; few = few; shifts = shift_agrees lookup filter few }
