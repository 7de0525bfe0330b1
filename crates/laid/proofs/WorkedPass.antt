-- The conditions of the statements can be met: an image with an item of each kind passes, and so does the table nested in it.
use Rattle.std.specs.Prelude.{Ok}
use mathlib.Core.Path.{◌≡◌, refl}
use mathlib.Core.List.{List, [], ◌∷◌}
use Prim.Native.Nat.{ℕ, ◌+◌}
use native.Mathlib.Omega.{arith}
use Rattle.words.specs.Choice.{pick}
use Rattle.key_hash.specs.Hash.{plain}
use Rattle.read.specs.Lookup.{lookup_table}
use Rattle.read_find.specs.declared.manner.Lookup.{Lookup}
use Rattle.read_find.specs.Find.{rust}
use Rattle.check_rules.specs.declared.checked.Checked.{Checked}
use Rattle.check_rules.specs.Rules.{check_table}
use Rattle.model.specs.Table.{times, entry_at, members_below, rows_of}
use Rattle.layout.specs.Sizes.{chunk_size}
use Rattle.image.specs.Image.{image_of}
use Rattle.laid.specs.Sample.{sample}
use Rattle.laid.specs.Back.{Lay}
use Rattle.laid.proofs.LayLaws.{lay_of}
use Rattle.laid.proofs.WorkedBack.{root_writable, size}
use Rattle.laid.specs.Passing.{AllPass}
use Rattle.laid.proofs.Passes.{alone_passes}

-- "a/" with its child "a/b", which holds 07, and "t", a table that holds "x" with 09
abbrev image : List ℕ
image = image_of plain 0 sample 0

-- without filter words
abbrev bare : Lay
bare = lay_of plain Lookup.Rust 0 (omega arith)

all : AllPass bare image sample 8 0 24
all = alone_passes bare sample 0 root_writable (omega (arith, size))

-- the root table of three items, from 24 to 116
pub root_passes : check_table rust image 24 116 ≡ Checked.Sound
unfolding AllPass sample rows_of members_below entry_at pick chunk_size
root_passes = all.0

-- and the table of one item at the pointer that lookup of "t" answers
pub nested-passes : (from : ℕ) × (lookup_table rust image 24 116 (116 ∷ []) ≡ Ok (record { start = from; end = from + 36 })) × (check_table rust image from (from + 36) ≡ Checked.Sound)
unfolding AllPass sample rows_of members_below entry_at times pick chunk_size
nested-passes =
    let (from, place, there) = all.1 2 1 (omega arith) refl in
    (from, place, there.0)
