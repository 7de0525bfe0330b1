-- A whole image reads back, wherever it was put.
use mathlib.Core.Path.{◌≡◌, refl, ◌∙◌}
use mathlib.Core.List.{List}
use Prim.Native.Nat.{ℕ, ◌≤◌}
use native.Mathlib.Omega.{arith}
use lib.ListN.{length}
use lib.Seq.{take-length}
use Rattle.words.specs.Store.{put_at, zeros}
use Rattle.words.proofs.StoreLaws.{length-zeros, length-put, part_after}
use Rattle.layout.specs.Limits.{longest_file, deepest}
use Rattle.model.specs.Table.{State}
use Rattle.layout.specs.Sizes.{header_size}
use Rattle.image.specs.Image.{table_bytes, image_of}
use Rattle.image.specs.WellFormed.{Writable}
use Rattle.image.specs.Laid.{Holds}
use Rattle.image.proofs.LaidLaws.{holds-put, holds_next}
use Rattle.laid.specs.Told.{AllBack}
use Rattle.laid.specs.Back.{Lay}
use Rattle.laid.proofs.ReadBack.{all_back}

module _ (rule : ℕ → ℕ) (filter : ℕ) (state : State) (root : ℕ) where
  -- an image holds the root table behind its 24 zeros, and so it does with a header laid over these
  pub root_held : (file : List ℕ) → Holds file 0 (image_of rule filter state root) → Holds file header_size (table_bytes rule filter state deepest root header_size)
  unfolding image_of
  root_held file held = holds_next file 0 (zeros header_size) (table_bytes rule filter state deepest root header_size) header_size (omega (arith, length-zeros header_size)) held

  pub headed-held : (header : List ℕ) → length header ≡ header_size → Holds (put_at (image_of rule filter state root) 0 header) header_size (table_bytes rule filter state deepest root header_size)
  unfolding Holds
  headed-held header long =
      part_after (image_of rule filter state root) 0 header header_size (length (table_bytes rule filter state deepest root header_size)) (omega arith) ∙ root_held (image_of rule filter state root) (take-length (image_of rule filter state root))

module _ (lay : Lay) (state : State) (root : ℕ) (good : Writable state deepest root) where
  -- any file that holds the root table behind the header's 24 bytes, whatever stands in the header and behind the image
  pub root_back : (file : List ℕ) → length file ≤ longest_file → Holds file header_size (table_bytes lay.manner.byte lay.filter state deepest root header_size) → AllBack lay file state deepest root header_size
  root_back file short held = all_back lay file state deepest root header_size held short refl good

  -- any file that starts with the image
  pub front_back : (file : List ℕ) → length file ≤ longest_file → Holds file 0 (image_of lay.manner.byte lay.filter state root) → AllBack lay file state deepest root header_size
  front_back file short held = root_back file short (root_held lay.manner.byte lay.filter state root file held)

  -- a buffer that the image was put to the front of
  pub image_back : (buffer : List ℕ) → length buffer ≤ longest_file → length (image_of lay.manner.byte lay.filter state root) ≤ length buffer
      → AllBack lay (put_at buffer 0 (image_of lay.manner.byte lay.filter state root)) state deepest root header_size
  image_back buffer short fits =
      front_back (put_at buffer 0 (image_of lay.manner.byte lay.filter state root)) (rw (length-put buffer 0 (image_of lay.manner.byte lay.filter state root)) short) (holds-put buffer 0 (image_of lay.manner.byte lay.filter state root) (omega arith))

  -- the image by itself
  pub alone_back : length (image_of lay.manner.byte lay.filter state root) ≤ longest_file → AllBack lay (image_of lay.manner.byte lay.filter state root) state deepest root header_size
  unfolding Holds
  alone_back short = front_back (image_of lay.manner.byte lay.filter state root) short (take-length (image_of lay.manner.byte lay.filter state root))
