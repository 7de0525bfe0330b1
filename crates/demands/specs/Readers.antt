-- Calls of the readers and of the check, as their contracts say what they do: the file, the pointer, and what else is given, the number of a manner last; then the answer.
use Rattle.std.specs.Prelude.{ℕ, List}
use Rattle.read_find.specs.Find.{Manner, manner_of}
use Rattle.answers.specs.Manner.{form_of, lookup_of}
use Rattle.answers.specs.declared.header.GvdbHeader.{GvdbHeader}
use Rattle.answers.specs.declared.reading.GvdbOpened.{GvdbOpened}
use Rattle.answers.specs.declared.reading.GvdbPlace.{GvdbPlace}
use Rattle.answers.specs.declared.reading.GvdbLayered.{GvdbLayered}
use Rattle.answers.specs.declared.reading.GvdbKey.{GvdbKey}
use Rattle.answers.specs.declared.reading.GvdbValue.{GvdbValue}
use Rattle.answers.specs.declared.reading.GvdbChild.{GvdbChild}
use Rattle.answers.specs.declared.checking.GvdbCheck.{GvdbCheck}
use Rattle.gvdb.proofs.header.gvdb_abi.Kinds as abi-kinds
use Rattle.gvdb.proofs.header.gvdb_abi.Reads as abi-reads
use Rattle.gvdb.proofs.building.gvdb_memory_words.Kinds as memory-words-kinds
use Rattle.gvdb.proofs.building.gvdb_memory_words.Reads as memory-words-reads
use Rattle.gvdb.proofs.header.gvdb_read_header.Kinds as read-header-kinds
use Rattle.gvdb.proofs.header.gvdb_read_header.Reads as read-header-reads
use Rattle.gvdb.proofs.header.gvdb_lay_header.Kinds as lay-header-kinds
use Rattle.gvdb.proofs.header.gvdb_lay_header.Reads as lay-header-reads
use Rattle.gvdb.proofs.reading.gvdb_first_bad.Kinds as first-bad-kinds
use Rattle.gvdb.proofs.reading.gvdb_first_bad.Reads as first-bad-reads
use Rattle.gvdb.proofs.reading.gvdb_open.Kinds as open-kinds
use Rattle.gvdb.proofs.reading.gvdb_open.Reads as open-reads
use Rattle.gvdb.proofs.reading.gvdb_get.Kinds as get-kinds
use Rattle.gvdb.proofs.reading.gvdb_get.Reads as get-reads
use Rattle.gvdb.proofs.reading.gvdb_get_table.Kinds as get-table-kinds
use Rattle.gvdb.proofs.reading.gvdb_get_table.Reads as get-table-reads
use Rattle.gvdb.proofs.reading.gvdb_get_layered.Kinds as get-layered-kinds
use Rattle.gvdb.proofs.reading.gvdb_get_layered.Reads as get-layered-reads
use Rattle.gvdb.proofs.reading.gvdb_next_key.Kinds as next-key-kinds
use Rattle.gvdb.proofs.reading.gvdb_next_key.Reads as next-key-reads
use Rattle.gvdb.proofs.reading.gvdb_next_value.Kinds as next-value-kinds
use Rattle.gvdb.proofs.reading.gvdb_next_value.Reads as next-value-reads
use Rattle.gvdb.proofs.reading.gvdb_next_child.Kinds as next-child-kinds
use Rattle.gvdb.proofs.reading.gvdb_next_child.Reads as next-child-reads
use Rattle.gvdb.proofs.checking.gvdb_check.Kinds as check-kinds
use Rattle.gvdb.proofs.checking.gvdb_check.Reads as check-reads
use Rattle.demands.specs.Calls.{Met}

-- the manner that a number names
abbrev pub read_by : ℕ → Manner
read_by manner = manner_of (record { form = form_of manner; lookup = lookup_of manner })

-- the number of the interface, and the least length of a builder's words: two calls without arguments
pub data Abi : ℕ → Type 0 where
  abi : (c : Met abi-kinds.ps abi-kinds.r abi-reads.Post) → Abi c.answer

pub data MemoryWords : ℕ → Type 0 where
  memory_words : (c : Met memory-words-kinds.ps memory-words-kinds.r memory-words-reads.Post) → MemoryWords c.answer

-- reading the header of a file
pub data ReadingHeader : List ℕ → GvdbHeader → Type 0 where
  reading_header : (c : Met read-header-kinds.ps read-header-kinds.r read-header-reads.Post) → ReadingHeader c.given.0.now c.answer

-- laying one into a lent target, by a byte order (0 is little, every other number big) and a root pointer: what the target held, the answer, and what it holds then
pub data LayingHeader : List ℕ → ℕ → ℕ → ℕ → ℕ → List ℕ → Type 0 where
  laying_header : (c : Met lay-header-kinds.ps lay-header-kinds.r lay-header-reads.Post)
      → LayingHeader c.given.0.now c.given.1.0 c.given.1.1.0 c.given.1.1.1.0 c.answer c.left.0.now

-- opening the table at a pointer of a file
pub data Opening : List ℕ → ℕ → ℕ → GvdbOpened → Type 0 where
  opening : (c : Met open-kinds.ps open-kinds.r open-reads.Post) → Opening c.given.0.now c.given.1.0 c.given.1.1.0 c.answer

-- looking a key up there, as a value and as a nested table
pub data Getting : List ℕ → ℕ → ℕ → List ℕ → ℕ → GvdbPlace → Type 0 where
  getting : (c : Met get-kinds.ps get-kinds.r get-reads.Post) → Getting c.given.0.now c.given.1.0 c.given.1.1.0 c.given.1.1.1.0.now c.given.1.1.1.1.0 c.answer

pub data GettingTable : List ℕ → ℕ → ℕ → List ℕ → ℕ → GvdbPlace → Type 0 where
  getting_table : (c : Met get-table-kinds.ps get-table-kinds.r get-table-reads.Post)
      → GettingTable c.given.0.now c.given.1.0 c.given.1.1.0 c.given.1.1.1.0.now c.given.1.1.1.1.0 c.answer

-- looking a key up in the owner's table, and in the district's under it: file and pointer of each, the key, then the number of a manner of each
pub data GettingLayered : List ℕ → ℕ → ℕ → List ℕ → ℕ → ℕ → List ℕ → ℕ → ℕ → GvdbLayered → Type 0 where
  getting_layered : (c : Met get-layered-kinds.ps get-layered-kinds.r get-layered-reads.Post)
      → GettingLayered c.given.0.now c.given.1.0 c.given.1.1.0 c.given.1.1.1.0.now c.given.1.1.1.1.0 c.given.1.1.1.1.1.0
      c.given.1.1.1.1.1.1.0.now c.given.1.1.1.1.1.1.1.0 c.given.1.1.1.1.1.1.1.1.0 c.answer

-- listing the key at a position into a lent buffer: what it held, the answer, and what it holds then
pub data Listing : List ℕ → ℕ → ℕ → ℕ → List ℕ → GvdbKey → List ℕ → Type 0 where
  listing : (c : Met next-key-kinds.ps next-key-kinds.r next-key-reads.Post)
      → Listing c.given.0.now c.given.1.0 c.given.1.1.0 c.given.1.1.1.0 c.given.1.1.1.1.0.now c.answer c.left.1.1.1.1.0.now

-- listing the first value at or after a position
pub data ListingValue : List ℕ → ℕ → ℕ → ℕ → GvdbValue → Type 0 where
  listing_value : (c : Met next-value-kinds.ps next-value-kinds.r next-value-reads.Post) → ListingValue c.given.0.now c.given.1.0 c.given.1.1.0 c.given.1.1.1.0 c.answer

-- listing the child at a position of the container of a key
pub data ListingChild : List ℕ → ℕ → ℕ → List ℕ → ℕ → ℕ → GvdbChild → Type 0 where
  listing_child : (c : Met next-child-kinds.ps next-child-kinds.r next-child-reads.Post)
      → ListingChild c.given.0.now c.given.1.0 c.given.1.1.0 c.given.1.1.1.0.now c.given.1.1.1.1.0 c.given.1.1.1.1.1.0 c.answer

-- judging a text
pub data Judging : List ℕ → ℕ → Type 0 where
  judging : (c : Met first-bad-kinds.ps first-bad-kinds.r first-bad-reads.Post) → Judging c.given.0.now c.answer

-- checking the table
pub data Checking : List ℕ → ℕ → ℕ → ℕ → GvdbCheck → Type 0 where
  checking : (c : Met check-kinds.ps check-kinds.r check-reads.Post) → Checking c.given.0.now c.given.1.0 c.given.1.1.0 c.given.1.1.1.0 c.answer
