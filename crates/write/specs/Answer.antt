-- What a write answers once the table is known, and from a numbered table.
use Rattle.std.specs.Prelude.{ℕ, ◌+◌, List, length, Result, Ok, Err}
use Rattle.layout.specs.declared.refusal.Refusal.{Refusal}
use Rattle.write.specs.declared.Image.{Image}
use Rattle.words.specs.Choice.{pick}
use Rattle.layout.specs.declared.refusal.Refusal.TheVariants.{EmptyKey, ImageTooLong}
use Rattle.layout.specs.Sizes.{header_size, chunk_size}
use Rattle.layout.specs.Limits.{deepest}
use Rattle.write_parts.specs.Numbered.{slot_count, numbered_image}
use Rattle.write_numbers.specs.Roster.{state_of}
use Rattle.write.specs.Write.{has_empty, too_long, image_for}

-- 31, or the answer for an image of some size, of a table of so many items
unfoldable pub size_answer : ℕ → ℕ → ℕ → ℕ → Result Image Refusal
size_answer filter room count size = pick (too_long room size) (Err ImageTooLong) (Ok (record { start = header_size; end = header_size + chunk_size filter count; length = size }))

unfoldable pub fit_answer : ℕ → List ℕ → List ℕ → ℕ → ℕ → Result Image Refusal
fit_answer filter numbered ar t room = size_answer filter room (slot_count numbered t) (length (numbered_image filter numbered ar t))

unfoldable pub table_answer : (ℕ → ℕ) → ℕ → List ℕ → List ℕ → ℕ → ℕ → Result Image Refusal
table_answer rule filter ws ar t room =
    pick (has_empty (state_of ws ar) deepest t) (Err EmptyKey)
    (size_answer filter room (length (state_of ws ar t).members) (length (image_for rule filter ws ar t)))
