-- Whatever is laid, passes the check: one table, all that is nested in it, a whole image.
use mathlib.Core.Path.{◌≡◌, refl}
use mathlib.Core.List.{List}
use Prim.Native.Nat.{ℕ, zero, suc, ◌%◌, ◌≤◌}
use native.Mathlib.Omega.{arith}
use lib.ListN.{length}
use lib.Seq.{take-length}
use Rattle.words.specs.Store.{put_at}
use Rattle.words.proofs.StoreLaws.{length-put}
use Rattle.layout.specs.Limits.{longest_file, deepest}
use Rattle.check_table.specs.Sound.{SoundTable}
use Rattle.check_table.proofs.SoundLaws.{passes_exactly_the_sound}
use Rattle.model.specs.Table.{State}
use Rattle.layout.specs.Sizes.{header_size}
use Rattle.image.specs.Image.{table_bytes, image_of}
use Rattle.image.specs.WellFormed.{Writable}
use Rattle.image.specs.Laid.{Holds}
use Rattle.image.proofs.LaidLaws.{holds-put}
use Rattle.laid.specs.Back.{Lay, end_of, table_opened, value_offset}
use Rattle.laid.proofs.ReadBack.{opens_back, table_looked, nested_back}
use Rattle.laid.specs.Passing.{AllPass, LaidTablePasses, LaidTablesAllPass, ImagePasses}
use Rattle.laid.proofs.LaidLaws.{laid_sound}
use Rattle.laid.proofs.ImageBack.{root_held}

-- a laid table is sound
pub table_sound : (lay : Lay) (file : List ℕ) (state : State) (d t at : ℕ) → Holds file at (table_bytes lay.manner.byte lay.filter state (suc d) t at) → length file ≤ longest_file → at % 4 ≡ 0
    → Writable state (suc d) t → SoundTable lay.manner file at (end_of lay.filter state t at)
unfolding SoundTable
table_sound lay file state d t at held short even good =
    (table_opened lay.filter state t at, opens_back lay file state d t at held short even good, laid_sound lay file state d t at held short even good)

-- so the check passes it
pub check_passes : LaidTablePasses
check_passes lay file state d t at held short even good =
    (passes_exactly_the_sound lay.manner file at (end_of lay.filter state t at)).1 (table_sound lay file state d t at held short even good)

-- the table and all that is nested in it, to the last level
pub all_pass : LaidTablesAllPass
unfolding AllPass Writable
all_pass lay file state zero t at held short even good = good
all_pass lay file state (suc d) t at held short even good = (
  check_passes lay file state d t at held short even good,
  λ i u l is. let n = nested_back lay file state d t at held short even good i u l is in (
    value_offset lay.manner.byte lay.filter state d t at i,
    table_looked lay file state d t at held short even good i u l is,
    all_pass lay file state d u (value_offset lay.manner.byte lay.filter state d t at i) n.held short n.even n.writable,
  ),
)

module _ (lay : Lay) (state : State) (root : ℕ) (good : Writable state deepest root) where
  -- any file that holds the root table behind the header's 24 bytes
  pub root_passes : (file : List ℕ) → length file ≤ longest_file → Holds file header_size (table_bytes lay.manner.byte lay.filter state deepest root header_size) → AllPass lay file state deepest root header_size
  root_passes file short held = all_pass lay file state deepest root header_size held short refl good

  -- any file that starts with the image, whatever stands behind it
  pub front_passes : (file : List ℕ) → length file ≤ longest_file → Holds file 0 (image_of lay.manner.byte lay.filter state root) → AllPass lay file state deepest root header_size
  front_passes file short held = root_passes file short (root_held lay.manner.byte lay.filter state root file held)

  -- the image by itself
  pub alone_passes : length (image_of lay.manner.byte lay.filter state root) ≤ longest_file → AllPass lay (image_of lay.manner.byte lay.filter state root) state deepest root header_size
  unfolding Holds
  alone_passes short = front_passes (image_of lay.manner.byte lay.filter state root) short (take-length (image_of lay.manner.byte lay.filter state root))

-- a buffer that the image was put to the front of
pub image-passes : ImagePasses
image-passes lay state root good buffer short fits =
    front_passes lay state root good (put_at buffer 0 (image_of lay.manner.byte lay.filter state root)) (rw (length-put buffer 0 (image_of lay.manner.byte lay.filter state root)) short)
    (holds-put buffer 0 (image_of lay.manner.byte lay.filter state root) (omega arith))
