-- THE HYPOTHESES CAN BE MET. Every call of a contract has an answer that meets it, on any arguments; and document 01's image of "a/b" with 07 is a history that ends in a
-- write which succeeds.
use Rattle.std.specs.Prelude.{ℕ, ◌-◌, ◌≤◌, ◌≡◌, List, [], ◌∷◌, length, take}
use Rattle.words.specs.Store.{part}
use Rattle.build_memory.specs.Memory.{Memory, least_words}
use Rattle.answers.specs.declared.reading.GvdbOpened.{GvdbOpened}
use Rattle.answers.specs.declared.reading.GvdbPlace.{GvdbPlace}
use Rattle.answers.specs.declared.reading.GvdbKey.{GvdbKey}
use Rattle.answers.specs.declared.checking.GvdbCheck.{GvdbCheck}
use Rattle.demands.specs.Calls.{Call, Does, Starts, Event, event, History}
use Rattle.demands.specs.Readers.{Opening, Getting, GettingTable, Listing, Checking}

pub record EveryCallAnswers : Type 0 where
  pub starts : (m : Memory) → (said : ℕ) × (after : Memory) × Starts m said after
  pub calls : (m : Memory) (call : Call) → (said : List ℕ) × (after : Memory) × (left : List ℕ) × Does m call said after left
  pub opens : (file : List ℕ) (start end : ℕ) → (r : GvdbOpened) × Opening file start end r
  pub gets : (file : List ℕ) (start end : ℕ) (key : List ℕ) (manner : ℕ) → (r : GvdbPlace) × Getting file start end key manner r
  pub tables : (file : List ℕ) (start end : ℕ) (key : List ℕ) (manner : ℕ) → (r : GvdbPlace) × GettingTable file start end key manner r
  pub lists : (file : List ℕ) (start end position : ℕ) (out : List ℕ) → (r : GvdbKey) × (left : List ℕ) × Listing file start end position out r left
  pub checks : (file : List ℕ) (start end manner : ℕ) → (r : GvdbCheck) × Checking file start end manner r

-- "a/b"
abbrev pub worked_key : List ℕ
worked_key = 97 ∷ 47 ∷ 98 ∷ []

-- a table with separator "/", then "a/b" with 07; the latest first
abbrev pub worked_events : List Event
worked_events = event (Call.insert_value 0 worked_key (7 ∷ [])) (0 ∷ 0 ∷ 0 ∷ []) ∷ event (Call.new_table (47 ∷ [])) (0 ∷ 0 ∷ []) ∷ []

-- a write then answers 24, 88, 104, and "a/b" looks up 07
abbrev pub WorkedHistory : Type 0
WorkedHistory =
    (start : Memory) (buffer : List ℕ) → least_words ≤ length start.words → length start.arena ≡ 8 → 104 ≤ length buffer
    → (m : Memory) × (left : List ℕ) × History 8 worked_events m × Does m (Call.write 0 buffer 0 0) (0 ∷ 24 ∷ 88 ∷ 104 ∷ []) m left
    × ((r : GvdbPlace) → Getting (take 104 left) 24 88 worked_key 0 r → (r.number ≡ 0) × (part (take 104 left) r.start (r.end - r.start) ≡ 7 ∷ []))
