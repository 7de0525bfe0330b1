-- WHEN A WRITE SUCCEEDS, and what it leaves beside the table: the statements, over every memory, every rule for a byte of the hash and every number of filter words.
use Rattle.std.specs.Prelude.{ℕ, zero, suc, ◌≤◌, ◌<◌, ◌≡◌, true, ◌⊎◌, List, length, take, drop, Ok}
use Rattle.words.specs.Store.{zeros}
use Rattle.layout.specs.Limits.{longest_file, deepest, most_filter}
use Rattle.model.specs.Table.{Content, State, Has}
use Rattle.build_memory.specs.Memory.{table_total, table_placed}
use Rattle.build_rules.specs.Valid.{fully_valid}
use Rattle.write_numbers.specs.Roster.{state_of}
use Rattle.write.specs.Write.{image_for, write_answer, written_number, image_after}

-- an item of table t, or of a table nested in it, at most d tables deep, has the empty key
unfoldable pub EmptyIn : State → ℕ → ℕ → Type 0
EmptyIn state zero t = ⊥
EmptyIn state (suc d) t =
    (i : ℕ) × Has (state t).members i
    × ((length ((state t).key i) ≡ 0) ⊎ ((u : ℕ) × ((state t).content i ≡ Content.nested u) × EmptyIn state d u))

-- what a write asks of the memory, the table and the buffer's room
pub record MayWrite (rule : ℕ → ℕ) (filter : ℕ) (ws ar : List ℕ) (t room : ℕ) : Type 0 where
  -- every written rule holds of the memory (else 29)
  pub whole : fully_valid ws ar ≡ true
  -- the table is known and in no other (else 24)
  pub known : t < table_total ws
  pub loose : table_placed ws t ≡ 0
  -- there are no more filter words than there may be (else 33)
  pub few : filter ≤ most_filter
  -- no key is empty (else 30)
  pub named : EmptyIn (state_of ws ar) deepest t → ⊥
  -- the image is no longer than a file may be, nor than the buffer (else 31)
  pub short : length (image_for rule filter ws ar t) ≤ longest_file
  pub fits : length (image_for rule filter ws ar t) ≤ room

abbrev pub SucceedsExactly : Type 0
SucceedsExactly =
    (rule : ℕ → ℕ) (filter : ℕ) (ws ar : List ℕ) (t room : ℕ)
    → (written_number (write_answer rule filter ws ar t room) ≡ 0 → MayWrite rule filter ws ar t room) × (MayWrite rule filter ws ar t room → written_number (write_answer rule filter ws ar t room) ≡ 0)

-- bytes past the image stay
abbrev pub SuccessKeepsRest : Type 0
SuccessKeepsRest =
    (rule : ℕ → ℕ) (filter : ℕ) (ws ar buffer : List ℕ) (t start end size : ℕ) → write_answer rule filter ws ar t (length buffer) ≡ Ok (record { start = start; end = end; length = size })
    → drop size (image_after rule filter ws ar t buffer) ≡ drop size buffer

-- bytes 0 to 23 are zero
abbrev pub SuccessClearsHeader : Type 0
SuccessClearsHeader =
    (rule : ℕ → ℕ) (filter : ℕ) (ws ar buffer : List ℕ) (t start end size : ℕ) → write_answer rule filter ws ar t (length buffer) ≡ Ok (record { start = start; end = end; length = size })
    → take 24 (image_after rule filter ws ar t buffer) ≡ zeros 24
