-- WHAT A WRITE GIVES: the statements, over every memory, with no history of it: what the rules that a write judges accept may be written, and
-- what a success says.
use Rattle.std.specs.Prelude.{ℕ, ◌≤◌, ◌≡◌, true, false, List, length, take, Ok}
use Rattle.layout.specs.Limits.{longest_file, deepest, most_filter}
use Rattle.layout.specs.Sizes.{header_size}
use Rattle.image.specs.WellFormed.{Writable}
use Rattle.laid.specs.Back.{Lay, end_of}
use Rattle.laid.specs.Told.{AllBack}
use Rattle.laid.specs.Passing.{AllPass}
use Rattle.laid.specs.Alike.{AllAlike}
use Rattle.build_rules.specs.Valid.{fully_valid}
use Rattle.write_numbers.specs.Roster.{state_of}
use Rattle.build_tables.specs.Table.{free_standing}
use Rattle.write.specs.Write.{has_empty, image_for, write_answer, image_after}

-- a memory that the rules accept means only tables that can be laid and read back: each free-standing one, with all nested in it
abbrev pub FreeStandingWritable : Type 0
FreeStandingWritable = (ws ar : List ℕ) → fully_valid ws ar ≡ true → (t : ℕ) → free_standing ws t ≡ true → Writable (state_of ws ar) deepest t

-- what a success says of the memory, the table, the room and the answer
pub record Success (rule : ℕ → ℕ) (filter : ℕ) (ws ar : List ℕ) (t room start end size : ℕ) : Type 0 where
  -- the answer: the pointer of the root table, behind the header, and the length of the image
  pub starts : start ≡ header_size
  pub ends : end ≡ end_of filter (state_of ws ar) t header_size
  pub long : size ≡ length (image_for rule filter ws ar t)
  -- the memory is fully valid, the table is free-standing, and no item in it or in those nested in it has the empty key
  pub whole : fully_valid ws ar ≡ true
  pub root : free_standing ws t ≡ true
  pub named : has_empty (state_of ws ar) deepest t ≡ false
  -- no more filter words than a table may have
  pub few : filter ≤ most_filter
  -- the image fits the buffer, and is no longer than a file may be
  pub fits : size ≤ room
  pub short : size ≤ longest_file

abbrev pub SuccessSays : Type 0
SuccessSays = (rule : ℕ → ℕ) (filter : ℕ) (ws ar : List ℕ) (t room start end size : ℕ) → write_answer rule filter ws ar t room ≡ Ok (record { start = start; end = end; length = size }) → Success rule filter ws ar t room start end size

-- the bytes at the buffer's front, as many as the answer says, are the image: a file of them reads back as the table, and every table in it passes the check
abbrev pub SuccessLays : Type 0
SuccessLays =
    (rule : ℕ → ℕ) (filter : ℕ) (ws ar buffer : List ℕ) (t start end size : ℕ) → write_answer rule filter ws ar t (length buffer) ≡ Ok (record { start = start; end = end; length = size })
    → take size (image_after rule filter ws ar t buffer) ≡ image_for rule filter ws ar t

abbrev pub SuccessReadsBack : Type 0
SuccessReadsBack =
    (lay : Lay) (ws ar buffer : List ℕ) (t start end size : ℕ) → write_answer lay.manner.byte lay.filter ws ar t (length buffer) ≡ Ok (record { start = start; end = end; length = size })
    → AllBack lay (take size (image_after lay.manner.byte lay.filter ws ar t buffer)) (state_of ws ar) deepest t header_size

abbrev pub SuccessPasses : Type 0
SuccessPasses =
    (lay : Lay) (ws ar buffer : List ℕ) (t start end size : ℕ) → write_answer lay.manner.byte lay.filter ws ar t (length buffer) ≡ Ok (record { start = start; end = end; length = size })
    → AllPass lay (take size (image_after lay.manner.byte lay.filter ws ar t buffer)) (state_of ws ar) deepest t header_size

-- both lookups answer alike on every key, in every table of it
abbrev pub SuccessAlike : Type 0
SuccessAlike =
    (rule : ℕ → ℕ) (filter : ℕ) (ws ar buffer : List ℕ) (t start end size : ℕ) → write_answer rule filter ws ar t (length buffer) ≡ Ok (record { start = start; end = end; length = size })
    → AllAlike rule filter (take size (image_after rule filter ws ar t buffer)) (state_of ws ar) deepest t header_size
