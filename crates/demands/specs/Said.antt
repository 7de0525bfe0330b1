-- WHAT EACH READER ANSWERS, by the places of its arguments as a caller gives them: the definition of its answer, over these arguments and no others. What the builder's calls answer stands in
-- `Model.antt`.
use Rattle.std.specs.Prelude.{ℕ, ◌≡◌, List, length}
use Rattle.text.specs.Utf8.{first_bad}
use Rattle.layout.specs.Table.{open_table}
use Rattle.file_header.specs.Answer.{header_laid_number}
use Rattle.file_header.specs.Header.{read_header, header_laid, with_header}
use Rattle.read.specs.Lookup.{lookup_value, lookup_table}
use Rattle.read.specs.Layered.{layered_value}
use Rattle.read_listing.specs.Listing.{key_at, listed, written, value_at}
use Rattle.read_listing.specs.Children.{next_child}
use Rattle.check_rules.specs.Rules.{check_table}
use Rattle.build_memory.specs.Memory.{least_words}
use Rattle.answers.specs.declared.header.GvdbHeader.{GvdbHeader}
use Rattle.answers.specs.declared.reading.GvdbOpened.{GvdbOpened}
use Rattle.answers.specs.declared.reading.GvdbPlace.{GvdbPlace}
use Rattle.answers.specs.declared.reading.GvdbLayered.{GvdbLayered}
use Rattle.answers.specs.declared.reading.GvdbKey.{GvdbKey}
use Rattle.answers.specs.declared.reading.GvdbValue.{GvdbValue}
use Rattle.answers.specs.declared.reading.GvdbChild.{GvdbChild}
use Rattle.answers.specs.declared.checking.GvdbCheck.{GvdbCheck}
use Rattle.answers.specs.Header.{abi, order_of, headed_answer}
use Rattle.answers.specs.Reading.{opened_answer, looked_answer, layered_answer, listed_answer, valued_answer, childed_answer}
use Rattle.answers.specs.Checking.{checked_answer}
use Rattle.demands.specs.Readers.{read_by, Abi, MemoryWords, ReadingHeader, LayingHeader, Judging, Opening, Getting, GettingTable, GettingLayered, Listing, ListingValue, ListingChild, Checking}

pub record EachReaderSays : Type 0 where
  pub number : (r : ℕ) → Abi r → r ≡ abi
  pub words : (r : ℕ) → MemoryWords r → r ≡ least_words
  pub headed : (file : List ℕ) (r : GvdbHeader) → ReadingHeader file r → r ≡ headed_answer (read_header file)
  pub lays : (target : List ℕ) (big start end number : ℕ) (left : List ℕ) → LayingHeader target big start end number left
      → (number ≡ header_laid_number (header_laid (length target))) × (left ≡ with_header target (order_of big) start end)
  pub judges : (text : List ℕ) (r : ℕ) → Judging text r → r ≡ first_bad text
  pub opens : (file : List ℕ) (start end : ℕ) (r : GvdbOpened) → Opening file start end r → r ≡ opened_answer (open_table file start end)
  pub gets : (file : List ℕ) (start end : ℕ) (key : List ℕ) (manner : ℕ) (r : GvdbPlace) → Getting file start end key manner r
      → r ≡ looked_answer (lookup_value (read_by manner) file start end key)
  pub tables : (file : List ℕ) (start end : ℕ) (key : List ℕ) (manner : ℕ) (r : GvdbPlace) → GettingTable file start end key manner r
      → r ≡ looked_answer (lookup_table (read_by manner) file start end key)
  pub layered : (owner : List ℕ) (ostart oend : ℕ) (district : List ℕ) (dstart dend : ℕ) (key : List ℕ) (omanner dmanner : ℕ) (r : GvdbLayered)
      → GettingLayered owner ostart oend district dstart dend key omanner dmanner r
      → r ≡ layered_answer (layered_value (read_by omanner) (read_by dmanner) owner ostart oend district dstart dend key)
  pub lists : (file : List ℕ) (start end position : ℕ) (out : List ℕ) (r : GvdbKey) (left : List ℕ) → Listing file start end position out r left
      → (r ≡ listed_answer (listed (key_at file start end position) (length out) position)) × (left ≡ written (key_at file start end position) out)
  pub values : (file : List ℕ) (start end position : ℕ) (r : GvdbValue) → ListingValue file start end position r → r ≡ valued_answer (value_at file start end position)
  pub children : (file : List ℕ) (start end : ℕ) (key : List ℕ) (position manner : ℕ) (r : GvdbChild) → ListingChild file start end key position manner r
      → r ≡ childed_answer (next_child (read_by manner) file start end key position)
  pub checks : (file : List ℕ) (start end manner : ℕ) (r : GvdbCheck) → Checking file start end manner r → r ≡ checked_answer (check_table (read_by manner) file start end)
