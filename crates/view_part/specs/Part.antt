-- Parts of a lent file.
use Rattle.std.specs.Prelude.{ℕ, ◌+◌, ◌-◌, ◌≡◌, List, [], length, take, drop, ltb, Result, Ok, Err}
use Rattle.layout.specs.declared.table.Table.{Table}
use Rattle.layout.specs.declared.refusal.Refusal.{Refusal}
use Rattle.layout.specs.declared.pointer.Pointer.{Pointer}
use Rattle.read_listing.specs.declared.children.Child.{Child}
use Rattle.std.specs.Borrow.{Bor}
use Rattle.words.specs.Choice.{pick}
use Rattle.read.specs.declared.layered.Source.{Source}
use Rattle.read.specs.declared.layered.Layered.{Layered}
use Rattle.read_listing.specs.declared.listing.Valued.{Valued}

-- a lent slice is a stretch of a lent file, and no copy: it lies in the file's memory, `at` bytes from the file's start, and holds `bytes`
pub record Viewed (file r : Bor (List ℕ)) (at : ℕ) (bytes : List ℕ) : Type 0 where
  pub block : r.ref_ptr.0 ≡ file.ref_ptr.0
  pub place : r.ref_ptr.1 ≡ file.ref_ptr.1 + at
  pub holds : r.now ≡ bytes

-- where the bytes from start up to end lie; 0 where they are not in the file
unfoldable pub stretch_at : List ℕ → ℕ → ℕ → ℕ
stretch_at file start end = pick (ltb end start) 0 (pick (ltb (length file) end) 0 start)

-- the bytes from start up to end; none where they are not in the file
unfoldable pub stretch_of : List ℕ → ℕ → ℕ → List ℕ
stretch_of file start end = pick (ltb end start) [] (pick (ltb (length file) end) [] (take (end - start) (drop start file)))

-- a slice is the stretch from start up to end
abbrev pub Stretch : Bor (List ℕ) → ℕ → ℕ → Bor (List ℕ) → Type 0
Stretch file start end r = Viewed file r (stretch_at file.now start end) (stretch_of file.now start end)

-- start and end of the pointer that a lookup answers; 0 and 0 on a refusal
abbrev pub pointer_start : Result Pointer Refusal → ℕ
pointer_start (Ok p) = p.start
pointer_start (Err why) = 0

abbrev pub pointer_end : Result Pointer Refusal → ℕ
pointer_end (Ok p) = p.end
pointer_end (Err why) = 0

-- a value that was looked up
abbrev pub ValueIn : Bor (List ℕ) → Result Pointer Refusal → Bor (List ℕ) → Type 0
ValueIn file looked r = Stretch file (pointer_start looked) (pointer_end looked) r

-- the owner's or the district's, as the mark says
abbrev pub of_source : {A : Type 0} → Source → A → A → A
of_source Source.Owner own under = own
of_source Source.District own under = under

-- a value that was looked up in two tables: it lies in the file of the one that answered
abbrev pub LayeredIn : Bor (List ℕ) → Bor (List ℕ) → Layered → Bor (List ℕ) → Type 0
LayeredIn owner district layered r = ValueIn (of_source layered.from owner district) layered.looked r

-- start and end of the pointer of a listed value; 0 and 0 on a refusal
abbrev pub listed_start : Valued → ℕ
listed_start (Valued.Value index start end next) = start
listed_start (Valued.Unopened why index next) = 0
listed_start (Valued.Refused why) = 0

abbrev pub listed_end : Valued → ℕ
listed_end (Valued.Value index start end next) = end
listed_end (Valued.Unopened why index next) = 0
listed_end (Valued.Refused why) = 0

-- a value that was listed
abbrev pub ListedIn : Bor (List ℕ) → Valued → Bor (List ℕ) → Type 0
ListedIn file valued r = Stretch file (listed_start valued) (listed_end valued) r

-- start and end of a listed child's fragment; 0 and 0 on a refusal
abbrev pub child_start : Result Child Refusal → ℕ
child_start (Ok x) = x.start
child_start (Err why) = 0

abbrev pub child_end : Result Child Refusal → ℕ
child_end (Ok x) = x.end
child_end (Err why) = 0

-- the fragment of a child that was listed
abbrev pub ChildIn : Bor (List ℕ) → Result Child Refusal → Bor (List ℕ) → Type 0
ChildIn file childed r = Stretch file (child_start childed) (child_end childed) r

-- start or end of the pointer to a table that opened; 0 on a refusal
abbrev pub opened_pointer : Result Table Refusal → ℕ → ℕ
opened_pointer (Ok table) number = number
opened_pointer (Err why) number = 0

-- the file of a table that opened, or of a nested table; none on a refusal
abbrev pub opened_file : Result Table Refusal → List ℕ → List ℕ
opened_file (Ok table) file = file
opened_file (Err why) file = []

abbrev pub nested_file : Result Pointer Refusal → List ℕ → List ℕ
nested_file (Ok p) file = file
nested_file (Err why) file = []

abbrev pub OpenedIn : Bor (List ℕ) → Result Table Refusal → Bor (List ℕ) → Type 0
OpenedIn file opened r = Viewed file r 0 (opened_file opened file.now)

abbrev pub NestedIn : Bor (List ℕ) → Result Pointer Refusal → Bor (List ℕ) → Type 0
NestedIn file looked r = Viewed file r 0 (nested_file looked file.now)
