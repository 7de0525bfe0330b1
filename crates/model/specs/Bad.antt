-- What comes with 8: where the given key is bad.
use Rattle.std.specs.Prelude.{ℕ, ◌≡◌, ◌↔◌, List, true, Err}
use Rattle.text.specs.Bad.{BadText}
use Rattle.layout.specs.declared.refusal.Refusal.TheVariants.{KeyNotUtf8}
use Rattle.model.specs.Builder.{Builder, free_standing, insert_value, insert_table}

-- the statement: 8 comes exactly where the tables are as they have to be and the given key is bad, with the offset at which it is
abbrev pub EightAt : Type 0
EightAt =
    (m : Builder) (t : ℕ) (key : List ℕ) (at : ℕ)
    → ((value : List ℕ) → ((insert_value m t key value).answer ≡ Err (KeyNotUtf8 at)) ↔ ((free_standing m t ≡ true) × BadText key at))
    × ((guest : ℕ) → ((insert_table m t key guest).answer ≡ Err (KeyNotUtf8 at))
    ↔ ((free_standing m t ≡ true) × (free_standing m guest ≡ true) × (t ≡ guest → ⊥) × BadText key at))
