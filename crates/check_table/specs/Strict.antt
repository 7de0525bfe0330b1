-- THE STRICT LOOKUP FINDS NO MORE, on any bytes: what it finds, the Rust's lookup finds at the same index; so a table that passes by the strict lookup passes by the Rust's.
use Rattle.std.specs.Prelude.{ℕ, ◌≡◌, List, Some}
use Rattle.layout.specs.declared.table.Table.{Table}
use Rattle.read_find.specs.declared.manner.Lookup.{Lookup}
use Rattle.read_find.specs.Find.{Manner, shift_of, find_item}
use Rattle.check_rules.specs.declared.checked.Checked.{Checked}
use Rattle.check_rules.specs.Rules.{check_table}

-- a rule for a byte, and a lookup
abbrev pub manner_by : (ℕ → ℕ) → Lookup → Manner
manner_by rule lookup = record { byte = rule; shift = shift_of lookup }

abbrev pub StrictFindsLess : Type 0
StrictFindsLess =
    (rule : ℕ → ℕ) (file : List ℕ) (t : Table) (key : List ℕ) (i : ℕ)
    → find_item (manner_by rule Lookup.Strict) file t key ≡ Some i → find_item (manner_by rule Lookup.Rust) file t key ≡ Some i

abbrev pub StrictPassesLess : Type 0
StrictPassesLess =
    (rule : ℕ → ℕ) (file : List ℕ) (start end : ℕ)
    → check_table (manner_by rule Lookup.Strict) file start end ≡ Checked.Sound → check_table (manner_by rule Lookup.Rust) file start end ≡ Checked.Sound
