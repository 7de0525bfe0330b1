-- DEMAND 2. 'After a write that succeeds, every value key looks up its exact bytes, and a key that the table does not hold is not found.'
-- For every history, every write that succeeds after it, with however many filter words, and every reader in the form of that write, by either lookup, whatever was replaced on the way: the image's root opens; under each key a reader finds what the last
-- accepted insert under it put there, said over the calls and their answers; and so in every nested table, to the last level.
use Rattle.std.specs.Prelude.{ℕ, zero, suc, ◌-◌, ◌≡◌, true, false, List, [], ◌∷◌, take}
use Rattle.words.specs.Store.{part}
use Rattle.text.specs.Utf8.{is_utf8}
use Rattle.model.specs.Table.{Content}
use Rattle.layout.specs.Limits.{deepest}
use Rattle.build_memory.specs.Memory.{Memory}
use Rattle.answers.specs.declared.reading.GvdbOpened.{GvdbOpened}
use Rattle.answers.specs.declared.reading.GvdbPlace.{GvdbPlace}
use Rattle.answers.specs.Manner.{form_of}
use Rattle.demands.specs.Calls.{Call, Does, Event, History}
use Rattle.demands.specs.Readers.{Opening, Getting, GettingTable}
use Rattle.demands.specs.Last.{Held, held}

-- whoever looks a key up, as a value or as a table, is told a number
pub record Both (manner : ℕ) (file : List ℕ) (start end : ℕ) (key : List ℕ) (n : ℕ) : Type 0 where
  pub value : (r : GvdbPlace) → Getting file start end key manner r → r.number ≡ n
  pub table : (r : GvdbPlace) → GettingTable file start end key manner r → r.number ≡ n

-- what a lookup of a key in the table from `start` to `end` is told, by what stands under the key: for a value the stretch of the file where just its bytes stand; for a
-- nested table the pointer by which it opens, and the rest there; 13, another kind than asked, for what is of another kind; 12, not found, for nothing
unfoldable pub Tells : ℕ → (ℕ → ℕ → ℕ → Type 0) → List ℕ → ℕ → ℕ → List ℕ → Held → Type 0
Tells manner inside file start end key Held.nothing = Both manner file start end key 12
Tells manner inside file start end key (Held.holds (Content.bytes value)) =
    ((r : GvdbPlace) → Getting file start end key manner r → (r.number ≡ 0) × (part file r.start (r.end - r.start) ≡ value))
    × ((r : GvdbPlace) → GettingTable file start end key manner r → r.number ≡ 13)
Tells manner inside file start end key (Held.holds (Content.nested u)) =
    ((r : GvdbPlace) → Getting file start end key manner r → r.number ≡ 13)
    × ((r : GvdbPlace) → GettingTable file start end key manner r → (r.number ≡ 0) × inside u r.start r.end)
Tells manner inside file start end key (Held.holds Content.container) = Both manner file start end key 13

-- table t opens, with as many items as the builder counts in it
unfoldable pub Opens : Memory → ℕ → List ℕ → ℕ → ℕ → Type 0
Opens m t file start end =
    (r : GvdbOpened) → Opening file start end r
    → (r.number ≡ 0) × ((said : List ℕ) (after : Memory) (left : List ℕ) → Does m (Call.item_count t) said after left → said ≡ 0 ∷ r.items ∷ [])

-- table t of a history, read from `start` to `end` of a file, at most so many tables deep
unfoldable pub Answers : ℕ → List Event → Memory → List ℕ → ℕ → ℕ → ℕ → ℕ → Type 0
Answers manner events m file zero t start end = ⊥
Answers manner events m file (suc d) t start end =
    Opens m t file start end
    × ((key : List ℕ) → is_utf8 key ≡ true → Tells manner (λ u from to. Answers manner events m file d u from to) file start end key (held t key events))
    × ((key : List ℕ) → is_utf8 key ≡ false → Both manner file start end key 8)

abbrev pub Demand2 : Type 0
Demand2 =
    (room : ℕ) (events : List Event) (m : Memory) → History room events m
    → (t : ℕ) (buffer : List ℕ) (manner filter start end size : ℕ) (after : Memory) (left : List ℕ) → Does m (Call.write t buffer manner filter) (0 ∷ start ∷ end ∷ size ∷ []) after left
    → (reader : ℕ) → form_of reader ≡ form_of manner → Answers reader events m (take size left) deepest t start end
