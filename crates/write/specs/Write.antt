-- A write, from document 01, 'Laying an image' and 'Order', and document 02 §11: 29, 24, 33, 30 anywhere in the table or those nested in it, 31. A refusal writes nothing; the
-- builder stays as it was.
use Rattle.std.specs.Prelude.{ℕ, zero, suc, ◌+◌, Bool, false, ◌||◌, List, eqb, ltb, length, get_or, Result, Ok, Err}
use Rattle.layout.specs.declared.refusal.Refusal.{Refusal}
use Rattle.write.specs.declared.Image.{Image}
use Rattle.words.specs.Choice.{pick}
use Rattle.words.specs.Below.{some_below}
use Rattle.words.specs.Store.{put_at}
use Rattle.layout.specs.Limits.{longest_file, deepest, most_filter}
use Rattle.layout.specs.Refusal.{number}
use Rattle.layout.specs.declared.refusal.Refusal.TheVariants.{MemoryBroken, TableUnknown, TooManyFilterWords, EmptyKey, ImageTooLong}
use Rattle.model.specs.Table.{Content, State}
use Rattle.build_rules.specs.Valid.{fully_valid}
use Rattle.build_tables.specs.Table.{free_standing}
use Rattle.layout.specs.Sizes.{header_size, chunk_size}
use Rattle.image.specs.Image.{image_of}
use Rattle.write_numbers.specs.Roster.{state_of}

-- what an item holds, if it holds a table, has an empty key
unfoldable pub empty_held : (ℕ → Bool) → Content → Bool
empty_held empty (Content.bytes value) = false
empty_held empty (Content.nested t) = empty t
empty_held empty Content.container = false

-- an item with the empty key stands in table t or in those nested in it, as deep as d goes
unfoldable pub has_empty : State → ℕ → ℕ → Bool
has_empty state zero t = false
has_empty state (suc d) t =
    some_below (λ k. eqb (length ((state t).key (get_or (state t).members k 0))) 0 || empty_held (λ u. has_empty state d u) ((state t).content (get_or (state t).members k 0)))
    (length (state t).members)

-- what is to be laid, by a rule for a byte of the hash and with so many filter words in every table
unfoldable pub image_for : (ℕ → ℕ) → ℕ → List ℕ → List ℕ → ℕ → List ℕ
image_for rule filter ws ar t = image_of rule filter (state_of ws ar) t

-- an image is longer than a buffer, or than a file may be
unfoldable pub too_long : ℕ → ℕ → Bool
too_long room size = ltb longest_file size || ltb room size

-- the answer: the root pointer, which covers the table chunk, and the image's length
unfoldable pub write_answer : (ℕ → ℕ) → ℕ → List ℕ → List ℕ → ℕ → ℕ → Result Image Refusal
write_answer rule filter ws ar t room =
    pick (fully_valid ws ar)
    (pick (free_standing ws t)
    (pick (ltb most_filter filter) (Err TooManyFilterWords)
    (pick (has_empty (state_of ws ar) deepest t) (Err EmptyKey)
    (pick (too_long room (length (image_for rule filter ws ar t))) (Err ImageTooLong)
    (Ok (record { start = header_size; end = header_size + chunk_size filter (length (state_of ws ar t).members); length = length (image_for rule filter ws ar t) })))))
    (Err TableUnknown))
    (Err MemoryBroken)

-- the buffer: the image at its front, all else as it was; a refusal writes nothing
unfoldable pub laid_by : Result Image Refusal → List ℕ → List ℕ → List ℕ
laid_by (Ok i) image buffer = put_at buffer 0 image
laid_by (Err why) image buffer = buffer

unfoldable pub image_after : (ℕ → ℕ) → ℕ → List ℕ → List ℕ → ℕ → List ℕ → List ℕ
image_after rule filter ws ar t buffer = laid_by (write_answer rule filter ws ar t (length buffer)) (image_for rule filter ws ar t) buffer

-- the document's number; 0 for a success
unfoldable pub written_number : Result Image Refusal → ℕ
written_number (Ok i) = 0
written_number (Err why) = number why
