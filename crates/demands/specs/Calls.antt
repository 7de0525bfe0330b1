-- HISTORIES OF CALLS. What a call does is what the contract of its C function says, as the checker reads it in the source (`FUNCTION.Reads.Post`). So nothing
-- behind a contract has to be believed for what is said over histories: no place of a word, no search, no chain of items.
use Rattle.std.specs.Prelude.{ℕ, Bool, List, [], ◌∷◌, eqb, length, get_or}
use contract.Lifetimes.{Lfts}
use denote.Triple.Clauses.{AtExit}
use borrow.Fn.Kinds.{ParamKind, ResultKind, Dens, res_t, ended_of, Out}
use Rattle.build_memory.specs.Memory.{Memory, memory}
use Rattle.gvdb.proofs.building.gvdb_fresh.Kinds as fresh-kinds
use Rattle.gvdb.proofs.building.gvdb_fresh.Reads as fresh-reads
use Rattle.gvdb.proofs.building.gvdb_new_table.Kinds as new-table-kinds
use Rattle.gvdb.proofs.building.gvdb_new_table.Reads as new-table-reads
use Rattle.gvdb.proofs.building.gvdb_insert.Kinds as insert-kinds
use Rattle.gvdb.proofs.building.gvdb_insert.Reads as insert-reads
use Rattle.gvdb.proofs.building.gvdb_insert_table.Kinds as insert-table-kinds
use Rattle.gvdb.proofs.building.gvdb_insert_table.Reads as insert-table-reads
use Rattle.gvdb.proofs.building.gvdb_item_count.Kinds as item-count-kinds
use Rattle.gvdb.proofs.building.gvdb_item_count.Reads as item-count-reads
use Rattle.gvdb.proofs.writing.gvdb_write.Kinds as write-kinds
use Rattle.gvdb.proofs.writing.gvdb_write.Reads as write-reads

-- a call that meets a contract: its arguments, its answer, and what the arguments hold at its end, each by its place
pub record Met {n : ℕ} (ps : List (ParamKind n)) (r : ResultKind n) (Post : Out n ps r) : Type 0 where
  pub lifetimes : Lfts n
  pub given : Dens lifetimes ps
  pub answer : (res_t r lifetimes).Denot
  pub left : AtExit (ended_of n ps r) lifetimes
  pub meets : Post lifetimes given answer left

-- a call of the builder with its arguments; a write with the bytes that its lent buffer held, the number of a manner, and how many filter words
pub data Call : Type 0 where
  new_table : (separator : List ℕ) → Call
  insert_value : (t : ℕ) (key value : List ℕ) → Call
  insert_table : (t : ℕ) (key : List ℕ) (guest : ℕ) → Call
  item_count : (t : ℕ) → Call
  write : (t : ℕ) (buffer : List ℕ) (manner filter : ℕ) → Call

-- on a memory a call answers some numbers, those of its struct in their order, and leaves a memory, and bytes in the buffer that it was lent besides
pub data Does : Memory → Call → List ℕ → Memory → List ℕ → Type 0 where
  new_table : (c : Met new-table-kinds.ps new-table-kinds.r new-table-reads.Post)
      → Does (memory c.given.0.now c.given.1.0.now) (Call.new_table c.given.1.1.0.now)
      (c.answer.number ∷ c.answer.table ∷ []) (memory c.left.0.now c.given.1.0.now) []
  insert_value : (c : Met insert-kinds.ps insert-kinds.r insert-reads.Post)
      → Does (memory c.given.0.now c.given.1.0.now) (Call.insert_value c.given.1.1.0 c.given.1.1.1.0.now c.given.1.1.1.1.0.now)
      (c.answer.number ∷ c.answer.replaced ∷ c.answer.at ∷ []) (memory c.left.0.now c.left.1.0.now) []
  insert_table : (c : Met insert-table-kinds.ps insert-table-kinds.r insert-table-reads.Post)
      → Does (memory c.given.0.now c.given.1.0.now) (Call.insert_table c.given.1.1.0 c.given.1.1.1.0.now c.given.1.1.1.1.0)
      (c.answer.number ∷ c.answer.replaced ∷ c.answer.at ∷ []) (memory c.left.0.now c.left.1.0.now) []
  item_count : (c : Met item-count-kinds.ps item-count-kinds.r item-count-reads.Post)
      → Does (memory c.given.0.now c.given.1.0.now) (Call.item_count c.given.1.1.0)
      (c.answer.number ∷ c.answer.count ∷ []) (memory c.given.0.now c.given.1.0.now) []
  write : (c : Met write-kinds.ps write-kinds.r write-reads.Post)
      → Does (memory c.given.0.now c.given.1.0.now) (Call.write c.given.1.1.0 c.given.1.1.1.0.now c.given.1.1.1.1.0 c.given.1.1.1.1.1.0)
      (c.answer.number ∷ c.answer.start ∷ c.answer.end ∷ c.answer.length ∷ []) (memory c.left.0.now c.given.1.0.now) c.left.1.1.1.0.now

-- a fresh start on a memory answers a number and leaves a memory
pub data Starts : Memory → ℕ → Memory → Type 0 where
  fresh : (c : Met fresh-kinds.ps fresh-kinds.r fresh-reads.Post)
      → Starts (memory c.given.0.now c.given.1.0.now) c.answer (memory c.left.0.now c.given.1.0.now)

-- the bytes that the buffer held which is lent besides; only a write is lent one
unfoldable pub lent : Call → List ℕ
lent (Call.new_table separator) = []
lent (Call.insert_value t key value) = []
lent (Call.insert_table t key guest) = []
lent (Call.item_count t) = []
lent (Call.write t buffer manner filter) = buffer

-- the first of the numbers is 0, or the refusal's
abbrev pub number : List ℕ → ℕ
number said = get_or said 0 0

abbrev pub accepted : List ℕ → Bool
accepted said = eqb (number said) 0

-- ---- a history: a fresh start that is accepted, then any calls with any arguments, accepted or refused, in any order

-- a call and what it answered
pub record Event : Type 0 where
  pub call : Call
  pub said : List ℕ

abbrev pub event : Call → List ℕ → Event
event call said = record { call = call; said = said }

-- the arena's length, the events, the latest first, and the memory that they leave
pub data History : ℕ → List Event → Memory → Type 0 where
  start : (before after : Memory) → Starts before 0 after → History (length after.arena) [] after
  then : (room : ℕ) (events : List Event) (m : Memory) → History room events m
      → (call : Call) (said : List ℕ) (after : Memory) (left : List ℕ) → Does m call said after left → History room (event call said ∷ events) after
