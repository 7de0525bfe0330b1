-- THE HYPOTHESES CAN BE MET, of the calls that Inhabited.antt does not name: each has an answer that meets its contract, on any arguments; and document 01's image of "a/b" with
-- 07 is, with a header over it, a file that reads back, and in it "a/" is a container in a table that passes the check.
use Rattle.std.specs.Prelude.{ℕ, ◌-◌, ◌≤◌, ◌≡◌, List, [], ◌∷◌, eqb, length, take}
use Rattle.words.specs.Choice.{pick}
use Rattle.words.specs.Store.{part}
use Rattle.build_memory.specs.Memory.{Memory, least_words}
use Rattle.answers.specs.declared.header.GvdbHeader.{GvdbHeader}
use Rattle.answers.specs.declared.reading.GvdbOpened.{GvdbOpened}
use Rattle.answers.specs.declared.reading.GvdbPlace.{GvdbPlace}
use Rattle.answers.specs.declared.reading.GvdbLayered.{GvdbLayered}
use Rattle.answers.specs.declared.reading.GvdbKey.{GvdbKey}
use Rattle.answers.specs.declared.reading.GvdbValue.{GvdbValue}
use Rattle.answers.specs.declared.reading.GvdbChild.{GvdbChild}
use Rattle.answers.specs.declared.checking.GvdbCheck.{GvdbCheck}
use Rattle.demands.specs.Calls.{Call, Does, Starts, Event, event, History}
use Rattle.demands.specs.Readers.{Abi, MemoryWords, ReadingHeader, LayingHeader, Judging, Opening, Getting, GettingTable, GettingLayered, Listing, ListingValue, ListingChild, Checking}
use Rattle.demands.specs.File.{FileLaid}
use Rattle.demands.specs.Children.{Contains}
use Rattle.demands.specs.Inhabited.{worked_key, worked_events}

pub record EveryNewerCallAnswers : Type 0 where
  pub abi : (r : ℕ) × Abi r
  pub words : (r : ℕ) × MemoryWords r
  pub headed : (file : List ℕ) → (r : GvdbHeader) × ReadingHeader file r
  pub lays : (target : List ℕ) (big start end : ℕ) → (number : ℕ) × (left : List ℕ) × LayingHeader target big start end number left
  pub judges : (text : List ℕ) → (r : ℕ) × Judging text r
  pub layered : (owner : List ℕ) (ostart oend : ℕ) (district : List ℕ) (dstart dend : ℕ) (key : List ℕ) (omanner dmanner : ℕ)
      → (r : GvdbLayered) × GettingLayered owner ostart oend district dstart dend key omanner dmanner r
  pub values : (file : List ℕ) (start end position : ℕ) → (r : GvdbValue) × ListingValue file start end position r
  pub children : (file : List ℕ) (start end : ℕ) (key : List ℕ) (position manner : ℕ) → (r : GvdbChild) × ListingChild file start end key position manner r

-- the header laid over it, in either byte order: the file reads back as order and pointer, "a/b" looks up 07 in it, and "a/" is a container in a table that passes
pub record WorkedFile (file : List ℕ) (big : ℕ) : Type 0 where
  pub header : (r : GvdbHeader) → ReadingHeader file r → r ≡ record { number = 0; big = pick (eqb big 0) 0 1; start = 24; end = 88 }
  pub value : (r : GvdbPlace) → Getting file 24 88 worked_key 0 r → (r.number ≡ 0) × (part file r.start (r.end - r.start) ≡ 7 ∷ [])
  pub container : Contains file 24 88 (97 ∷ 47 ∷ []) 0

abbrev pub FileCanBeLaid : Type 0
FileCanBeLaid =
    (start : Memory) (buffer : List ℕ) (big : ℕ) → least_words ≤ length start.words → length start.arena ≡ 8 → 104 ≤ length buffer
    → (m : Memory) × (file : List ℕ) × History 8 worked_events m × FileLaid m 0 big 0 0 24 88 0 file × WorkedFile file big
