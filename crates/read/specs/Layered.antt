-- A value lookup over two tables, from document 02, §6: the owner's table is asked first, and every answer of it but 12 is final; where it answers 12 the
-- answer is the district's, its own 12 included. Each table is read in a manner of its own.
use Rattle.std.specs.Prelude.{ℕ, ◌≡◌, ◌↔◌, List, eqb, Result}
use Rattle.layout.specs.declared.refusal.Refusal.{Refusal}
use Rattle.layout.specs.declared.pointer.Pointer.{Pointer}
use Rattle.words.specs.Choice.{pick}
use Rattle.read.specs.declared.layered.Source.{Source}
use Rattle.read.specs.declared.layered.Layered.{Layered}
use Rattle.read_find.specs.Find.{Manner}
use Rattle.read.specs.Lookup.{lookup_value}
use Rattle.read.specs.Answer.{looked_number}

-- an answer, with the mark of the table that gave it
abbrev pub marked : Result Pointer Refusal → Source → Layered
marked looked from = record { looked = looked; from = from }

-- from what the owner's table and the district's answer, each alone
unfoldable pub layered_of : Result Pointer Refusal → Result Pointer Refusal → Layered
layered_of own under = pick (eqb (looked_number own) 12) (marked under Source.District) (marked own Source.Owner)

unfoldable pub layered_value : Manner → Manner → List ℕ → ℕ → ℕ → List ℕ → ℕ → ℕ → List ℕ → Layered
layered_value omanner dmanner owner ostart oend district dstart dend key =
    layered_of (lookup_value omanner owner ostart oend key) (lookup_value dmanner district dstart dend key)

-- the statement: when the owner's table answers the key, the district's bytes, pointer and manner have no bearing
abbrev pub LayeredAlone : Type 0
LayeredAlone =
    (omanner dmanner other : Manner) (owner : List ℕ) (ostart oend : ℕ) (district : List ℕ) (dstart dend : ℕ) (file : List ℕ) (start end : ℕ) (key : List ℕ)
    → (looked_number (lookup_value omanner owner ostart oend key) ≡ 12 → ⊥)
    → layered_value omanner dmanner owner ostart oend district dstart dend key ≡ layered_value omanner other owner ostart oend file start end key

-- the statement: when it answers 12, the result is what the district's table alone would give
abbrev pub LayeredUnder : Type 0
LayeredUnder =
    (omanner dmanner : Manner) (owner : List ℕ) (ostart oend : ℕ) (district : List ℕ) (dstart dend : ℕ) (key : List ℕ)
    → looked_number (lookup_value omanner owner ostart oend key) ≡ 12
    → layered_value omanner dmanner owner ostart oend district dstart dend key ≡ marked (lookup_value dmanner district dstart dend key) Source.District

-- the statement: the mark is the district's exactly when the owner's answer is 12
abbrev pub LayeredMark : Type 0
LayeredMark =
    (omanner dmanner : Manner) (owner : List ℕ) (ostart oend : ℕ) (district : List ℕ) (dstart dend : ℕ) (key : List ℕ)
    → ((layered_value omanner dmanner owner ostart oend district dstart dend key).from ≡ Source.District) ↔ (looked_number (lookup_value omanner owner ostart oend key) ≡ 12)
