-- The number of document 01 that each answer stands for, 0 for a success, and the values that it carries, 0 where it has none.
use Rattle.std.specs.Prelude.{ℕ, ◌-◌, List, [], Result, Ok, Err}
use Rattle.layout.specs.declared.refusal.Refusal.{Refusal}
use Rattle.layout.specs.declared.pointer.Pointer.{Pointer}
use Rattle.words.specs.Store.{part}
use Rattle.layout.specs.Refusal.{number, bad_at}
use Rattle.read.specs.declared.layered.Source.{Source}

unfoldable pub looked_number : Result Pointer Refusal → ℕ
looked_number (Ok p) = 0
looked_number (Err why) = number why

-- where the given key is bad, told with 8
unfoldable pub looked_at : Result Pointer Refusal → ℕ
looked_at (Ok p) = 0
looked_at (Err why) = bad_at why

-- start and end of the pointer
unfoldable pub looked_pointer : Result Pointer Refusal → ℕ × ℕ
looked_pointer (Ok p) = (p.start, p.end)
looked_pointer (Err why) = (0, 0)

-- a view is that stretch of the file, and empty on a refusal
unfoldable pub looked_bytes : List ℕ → Result Pointer Refusal → List ℕ
looked_bytes file (Ok p) = part file p.start (p.end - p.start)
looked_bytes file (Err why) = []

-- the table that answered, of two: 0 the owner's, 1 the district's
abbrev pub source_number : Source → ℕ
source_number Source.Owner = 0
source_number Source.District = 1
