-- What the two forms have in common: for a key of ASCII bytes both lookups, and the listing of children, answer alike on every file.
use Rattle.std.specs.Prelude.{ℕ, ◌≡◌, true, List}
use Rattle.key_hash.specs.Hash.{signed}
use Rattle.text.specs.Ascii.{is_ascii}
use Rattle.read_find.specs.declared.manner.Lookup.{Lookup}
use Rattle.read_find.specs.Find.{Manner, shift_of, rust}
use Rattle.read.specs.Lookup.{lookup_value, lookup_table}
use Rattle.read_listing.specs.Children.{next_child}

-- GLib's: bytes count -128 to 127, and nothing is shifted
abbrev pub glib : Manner
glib = record { byte = signed; shift = shift_of Lookup.Rust }

-- the statement
abbrev pub AsciiLookups : Type 0
AsciiLookups =
    (file : List ℕ) (start end : ℕ) (key : List ℕ) → is_ascii key ≡ true
    → (lookup_value glib file start end key ≡ lookup_value rust file start end key)
    × (lookup_table glib file start end key ≡ lookup_table rust file start end key)
    × ((at : ℕ) → next_child glib file start end key at ≡ next_child rust file start end key at)
