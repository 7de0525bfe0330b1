-- BOTH LOOKUPS ANSWER ALIKE on every key of every table that is laid: the filter lets each of its items pass, whichever second bit is asked for.
use Rattle.std.specs.Prelude.{ℕ, zero, suc, ◌%◌, ◌^◌, ◌≤◌, ◌<◌, ◌≡◌, List, length, Ok}
use Rattle.layout.specs.Limits.{longest_file}
use Rattle.read_find.specs.declared.manner.Lookup.{Lookup}
use Rattle.read.specs.Lookup.{lookup_value, lookup_table}
use Rattle.check_table.specs.Strict.{manner_by}
use Rattle.model.specs.Table.{Content, State, Has}
use Rattle.image.specs.Image.{table_bytes}
use Rattle.image.specs.WellFormed.{Writable}
use Rattle.image.specs.Laid.{Holds}
use Rattle.laid.specs.Back.{end_of}

-- every key, as a value and as a table, by both lookups
pub record Alike (rule : ℕ → ℕ) (file : List ℕ) (start end : ℕ) : Type 0 where
  pub value : (key : List ℕ) → lookup_value (manner_by rule Lookup.Strict) file start end key ≡ lookup_value (manner_by rule Lookup.Rust) file start end key
  pub table : (key : List ℕ) → lookup_table (manner_by rule Lookup.Strict) file start end key ≡ lookup_table (manner_by rule Lookup.Rust) file start end key

-- in table t at `at`, and in every table nested in it
unfoldable pub AllAlike : (ℕ → ℕ) → ℕ → List ℕ → State → ℕ → ℕ → ℕ → Type 0
AllAlike rule filter file state zero t at = ⊥
AllAlike rule filter file state (suc d) t at =
    Alike rule file at (end_of filter state t at)
    × ((i u : ℕ) → Has (state t).members i → (state t).content i ≡ Content.nested u
    → (from : ℕ) × (lookup_table (manner_by rule Lookup.Rust) file at (end_of filter state t at) ((state t).key i) ≡ Ok (record { start = from; end = end_of filter state u from }))
    × AllAlike rule filter file state d u from)

-- the statement, for every rule and every number of filter words that a table's first word can name
abbrev pub LookupsAlike : Type 0
LookupsAlike =
    (rule : ℕ → ℕ) (filter : ℕ) → filter < 2 ^ 27 → (file : List ℕ) (state : State) (d t at : ℕ) → Holds file at (table_bytes rule filter state d t at)
    → length file ≤ longest_file → at % 4 ≡ 0 → Writable state d t → AllAlike rule filter file state d t at
