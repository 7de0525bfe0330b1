-- The number that names how a table is read, checked and laid, as it crosses from C: bit 0 is the form of the hash, bit 1 the lookup; the other bits are not read.
use Rattle.std.specs.Prelude.{ℕ, ◌/◌, ◌%◌, ◌≡◌, refl, eqb}
use Rattle.words.specs.Choice.{pick}
use Rattle.key_hash.specs.declared.hash.Form.{Form}
use Rattle.key_hash.specs.Hash.{plain, signed}
use Rattle.read_find.specs.declared.manner.Lookup.{Lookup}
use Rattle.read_find.specs.declared.manner.Manner.{Manner}
use Rattle.read_find.specs.Find.{rust, shift_of, manner_of}
use Rattle.read_listing.specs.Forms.{glib}

-- an even number names the base form, an odd one the signed form
unfoldable pub form_of : ℕ → Form
form_of number = pick (eqb (number % 2) 0) Form.Plain Form.Signed

-- the Rust's lookup where bit 1 is clear, the strict one where it is set
unfoldable pub lookup_of : ℕ → Lookup
lookup_of number = pick (eqb (number / 2 % 2) 0) Lookup.Rust Lookup.Strict

unfoldable pub manner_named : ℕ → Manner
manner_named number = record { form = form_of number; lookup = lookup_of number }

-- 0 is the Rust's, 1 GLib's; 2 is the Rust's with the strict lookup; 5 has bit 0 set and bit 1 clear
pub named : (manner_of (manner_named 0) ≡ rust) × (manner_of (manner_named 1) ≡ glib)
    × (manner_of (manner_named 2) ≡ record { byte = plain; shift = shift_of Lookup.Strict }) × (manner_of (manner_named 5) ≡ glib)
unfolding manner_named form_of lookup_of pick
named = (refl, refl, refl, refl)

-- 3 is GLib's form with the strict lookup
pub named_3 : manner_of (manner_named 3) ≡ record { byte = signed; shift = shift_of Lookup.Strict }
unfolding manner_named form_of lookup_of pick
named_3 = refl
