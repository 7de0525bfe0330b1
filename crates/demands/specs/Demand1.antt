-- DEMAND 1. 'No bytes, pointer, key or order of calls can make it fail .. a refusal changes nothing in the builder or in any lent buffer.'
-- Whatever memory and file hold, a refusal leaves words (the links among them), arena and lent buffer as they were. And on every history no call meets 29.
use Rattle.std.specs.Prelude.{ℕ, ◌≡◌, false, List}
use Rattle.build_memory.specs.Memory.{Memory}
use Rattle.answers.specs.declared.reading.GvdbKey.{GvdbKey}
use Rattle.demands.specs.Calls.{Call, Does, Starts, lent, number, accepted, Event, History}
use Rattle.demands.specs.Readers.{Listing, LayingHeader}

-- the builder's calls
abbrev pub RefusalChangesNothing : Type 0
RefusalChangesNothing =
    (m : Memory) (call : Call) (said : List ℕ) (after : Memory) (left : List ℕ) → Does m call said after left
    → accepted said ≡ false → (after ≡ m) × (left ≡ lent call)

-- the fresh start
abbrev pub RefusedStartChangesNothing : Type 0
RefusedStartChangesNothing = (m : Memory) (said : ℕ) (after : Memory) → Starts m said after → (said ≡ 0 → ⊥) → after ≡ m

-- key listing, the one reader that is lent a buffer to write
abbrev pub RefusedListingWritesNothing : Type 0
RefusedListingWritesNothing =
    (file : List ℕ) (start end position : ℕ) (out : List ℕ) (r : GvdbKey) (left : List ℕ) → Listing file start end position out r left
    → (r.number ≡ 0 → ⊥) → left ≡ out

-- laying a header
abbrev pub RefusedHeaderWritesNothing : Type 0
RefusedHeaderWritesNothing =
    (target : List ℕ) (big start end number : ℕ) (left : List ℕ) → LayingHeader target big start end number left → (number ≡ 0 → ⊥) → left ≡ target

-- after any history, no call is refused with 29
abbrev pub Never29 : Type 0
Never29 =
    (room : ℕ) (events : List Event) (m : Memory) → History room events m
    → (call : Call) (said : List ℕ) (after : Memory) (left : List ℕ) → Does m call said after left → number said ≡ 29 → ⊥
