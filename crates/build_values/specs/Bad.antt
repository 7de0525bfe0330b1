-- What comes with 8: where the given key is bad.
use Rattle.std.specs.Prelude.{ℕ, ◌≡◌, ◌↔◌, List, true, length, Err}
use Rattle.text.specs.Bad.{BadText}
use Rattle.layout.specs.declared.refusal.Refusal.TheVariants.{KeyNotUtf8}
use Rattle.build_memory.specs.Memory.{valid}
use Rattle.build_tables.specs.Table.{free_standing}
use Rattle.build_values.specs.Insert.{insert_value}

-- the statement: 8 comes exactly where memory and table are as they have to be and the given key is bad, with the offset at which it is
abbrev pub EightAt : Type 0
EightAt =
    (ws ar : List ℕ) (t : ℕ) (key value : List ℕ) (at : ℕ)
    → ((insert_value ws ar t key value).answer ≡ Err (KeyNotUtf8 at))
    ↔ ((valid ws (length ar) ≡ true) × (free_standing ws t ≡ true) × BadText key at)
