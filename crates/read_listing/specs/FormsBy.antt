-- What the two forms have in common, by either lookup: for a key of ASCII bytes both lookups, and the listing of children, answer alike on every file.
use Rattle.std.specs.Prelude.{ℕ, ◌≡◌, true, List}
use Rattle.key_hash.specs.Hash.{plain, signed}
use Rattle.text.specs.Ascii.{is_ascii}
use Rattle.read_find.specs.declared.manner.Lookup.{Lookup}
use Rattle.read_find.specs.Find.{Manner, shift_of}
use Rattle.read.specs.Lookup.{lookup_value, lookup_table}
use Rattle.read_listing.specs.Children.{next_child}

-- the two forms, with any shift: bytes count -128 to 127, or 0 to 255
abbrev pub glib_by : (ℕ → ℕ) → Manner
glib_by shift = record { byte = signed; shift = shift }

abbrev pub rust_by : (ℕ → ℕ) → Manner
rust_by shift = record { byte = plain; shift = shift }

-- the statement
abbrev pub AsciiLookupsBy : Type 0
AsciiLookupsBy =
    (lookup : Lookup) (file : List ℕ) (start end : ℕ) (key : List ℕ) → is_ascii key ≡ true
    → (lookup_value (glib_by (shift_of lookup)) file start end key ≡ lookup_value (rust_by (shift_of lookup)) file start end key)
    × (lookup_table (glib_by (shift_of lookup)) file start end key ≡ lookup_table (rust_by (shift_of lookup)) file start end key)
    × ((at : ℕ) → next_child (glib_by (shift_of lookup)) file start end key at ≡ next_child (rust_by (shift_of lookup)) file start end key at)
