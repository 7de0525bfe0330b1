-- What comes with 8: where the given key is bad.
use Rattle.std.specs.Prelude.{ℕ, ◌≡◌, ◌↔◌, List, true, length, Err}
use Rattle.text.specs.Bad.{BadText}
use Rattle.layout.specs.declared.refusal.Refusal.TheVariants.{KeyNotUtf8}
use Rattle.build_memory.specs.Memory.{valid}
use Rattle.build_tables.specs.Table.{free_standing}
use Rattle.build_nested.specs.Nest.{insert_table}

-- the statement: 8 comes exactly where memory and tables are as they have to be and the given key is bad, with the offset at which it is
abbrev pub EightAt : Type 0
EightAt =
    (ws ar : List ℕ) (t : ℕ) (key : List ℕ) (guest at : ℕ)
    → ((insert_table ws ar t key guest).answer ≡ Err (KeyNotUtf8 at))
    ↔ ((valid ws (length ar) ≡ true) × (free_standing ws t ≡ true) × (free_standing ws guest ≡ true) × (t ≡ guest → ⊥) × BadText key at)
