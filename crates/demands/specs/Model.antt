-- CALLS ARE THE MODEL'S. The model (crate `model`) is what document 01 says of a builder: tables and items in order, no memory. On every history each call answers the numbers
-- that the model's call answers, and leaves what the model's call leaves: so does every call after it. An image that is laid is that of the model's table.
-- `Means.antt` says it of memory: after every history the words mean the builder that the model's calls built.
use Rattle.std.specs.Prelude.{ℕ, ◌+◌, ◌≡◌, List, [], ◌∷◌, ltb, length, Result, Ok, Err}
use Rattle.layout.specs.declared.refusal.Refusal.{Refusal}
use Rattle.write.specs.declared.Image.{Image}
use Rattle.model.specs.Inserted.{Inserted}
use Rattle.layout.specs.Limits.{deepest, most_filter}
use Rattle.layout.specs.Sizes.{chunk_size, header_size}
use Rattle.words.specs.Choice.{pick}
use Rattle.key_hash.specs.Hash.{rule_of}
use Rattle.layout.specs.declared.refusal.Refusal.TheVariants.{TableUnknown, TooManyFilterWords, EmptyKey, ImageTooLong}
use Rattle.model.specs.Table.{State, rows_of}
use Rattle.model.specs.Builder.{Builder, fresh, free_standing, new_table, insert_value, insert_table, item_count}
use Rattle.image.specs.Image.{image_of}
use Rattle.build_memory.specs.Memory.{Memory}
use Rattle.build_tables.specs.Answer.{added_number, added_table, counted_number, counted_items}
use Rattle.build_values.specs.Answer.{inserted_number, inserted_kind, inserted_at}
use Rattle.write.specs.Write.{has_empty, too_long, laid_by, written_number}
use Rattle.answers.specs.Manner.{form_of}
use Rattle.answers_build.specs.Writing.{written_image}
use Rattle.demands.specs.Calls.{Call, Does, Event, History}

-- the tables of a builder, and the image of one of them by a rule for a byte of the hash and a number of filter words
abbrev pub tables_of : Builder → State
tables_of b = rows_of b.items

unfoldable pub image_in : (ℕ → ℕ) → ℕ → Builder → ℕ → List ℕ
image_in rule filter b t = image_of rule filter (tables_of b) t

-- a write: 24, 33, 30 anywhere in the table or those nested in it, 31; else the root pointer and the image's length
unfoldable pub write : (ℕ → ℕ) → ℕ → Builder → ℕ → ℕ → Result Image Refusal
write rule filter b t room =
    pick (free_standing b t)
    (pick (ltb most_filter filter) (Err TooManyFilterWords)
    (pick (has_empty (tables_of b) deepest t) (Err EmptyKey)
    (pick (too_long room (length (image_in rule filter b t))) (Err ImageTooLong)
    (Ok (record { start = header_size; end = header_size + chunk_size filter (length (tables_of b t).members); length = length (image_in rule filter b t) })))))
    (Err TableUnknown)

-- each answer as numbers, in the order of its struct
unfoldable pub added : Result ℕ Refusal → List ℕ
added a = added_number a ∷ added_table a ∷ []

unfoldable pub inserted : Inserted → List ℕ
inserted a = inserted_number a ∷ inserted_kind a ∷ inserted_at a ∷ []

unfoldable pub counted : Result ℕ Refusal → List ℕ
counted a = counted_number a ∷ counted_items a ∷ []

unfoldable pub written : Result Image Refusal → List ℕ
written a = written_number a ∷ (written_image a).0 ∷ (written_image a).1 ∷ (written_image a).2 ∷ []

-- what a call answers
unfoldable pub says : Builder → Call → List ℕ
says b (Call.new_table separator) = added (new_table b separator).answer
says b (Call.insert_value t key value) = inserted (insert_value b t key value).answer
says b (Call.insert_table t key guest) = inserted (insert_table b t key guest).answer
says b (Call.item_count t) = counted (item_count b t)
says b (Call.write t buffer manner filter) = written (write (rule_of (form_of manner)) filter b t (length buffer))

-- the builder that it leaves
unfoldable pub makes : Builder → Call → Builder
makes b (Call.new_table separator) = (new_table b separator).after
makes b (Call.insert_value t key value) = (insert_value b t key value).after
makes b (Call.insert_table t key guest) = (insert_table b t key guest).after
makes b (Call.item_count t) = b
makes b (Call.write t buffer manner filter) = b

-- what it leaves in the buffer that it was lent besides
unfoldable pub lays : Builder → Call → List ℕ
lays b (Call.new_table separator) = []
lays b (Call.insert_value t key value) = []
lays b (Call.insert_table t key guest) = []
lays b (Call.item_count t) = []
lays b (Call.write t buffer manner filter) = laid_by (write (rule_of (form_of manner)) filter b t (length buffer)) (image_in (rule_of (form_of manner)) filter b t) buffer

-- the builder after a history
unfoldable pub built : ℕ → List Event → Builder
built room [] = fresh room
built room (e ∷ earlier) = makes (built room earlier) e.call

abbrev pub CallsAreTheModels : Type 0
CallsAreTheModels =
    (room : ℕ) (events : List Event) (m : Memory) → History room events m
    → (call : Call) (said : List ℕ) (after : Memory) (left : List ℕ) → Does m call said after left
    → (said ≡ says (built room events) call) × (left ≡ lays (built room events) call)
