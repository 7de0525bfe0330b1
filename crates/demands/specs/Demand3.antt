-- DEMAND 3. 'Every table in every image that our writer lays, nested ones too, after any accepted or refused calls on a fresh builder, passes', in the form in which it is laid, by either lookup and with however many filter words. It holds of every memory,
-- reached by calls or not. And the check passes exactly the sound tables; where it passes none, it names the first item and the first rule that it breaks,
-- and for rule 1 what listing that item refuses with.
use Rattle.std.specs.Prelude.{ℕ, zero, suc, ◌≡◌, ◌↔◌, List, [], ◌∷◌, take}
use Rattle.check_table.specs.Sound.{SoundTable}
use Rattle.check_rules.specs.Broken.{BrokenAt}
use Rattle.layout.specs.Limits.{deepest}
use Rattle.build_memory.specs.Memory.{Memory}
use Rattle.answers.specs.declared.reading.GvdbOpened.{GvdbOpened}
use Rattle.answers.specs.declared.reading.GvdbPlace.{GvdbPlace}
use Rattle.answers.specs.declared.reading.GvdbKey.{GvdbKey}
use Rattle.answers.specs.declared.checking.GvdbCheck.{GvdbCheck}
use Rattle.answers.specs.Manner.{form_of}
use Rattle.demands.specs.Calls.{Call, Does}
use Rattle.demands.specs.Readers.{read_by, Opening, GettingTable, Listing, Checking}

-- the table from `start` to `end` passes, and so does every table that a reader can find in it, at most so many tables deep
unfoldable pub AllPass : ℕ → List ℕ → ℕ → ℕ → ℕ → Type 0
AllPass manner file zero start end = ⊥
AllPass manner file (suc d) start end =
    ((r : GvdbCheck) → Checking file start end manner r → r.number ≡ 0)
    × ((key : List ℕ) (r : GvdbPlace) → GettingTable file start end key manner r → r.number ≡ 0 → AllPass manner file d r.start r.end)

abbrev pub EveryImagePasses : Type 0
EveryImagePasses =
    (m : Memory) (t : ℕ) (buffer : List ℕ) (manner filter start end size : ℕ) (after : Memory) (left : List ℕ)
    → Does m (Call.write t buffer manner filter) (0 ∷ start ∷ end ∷ size ∷ []) after left → (reader : ℕ) → form_of reader ≡ form_of manner → AllPass reader (take size left) deepest start end

-- 0 just for a sound table
abbrev pub PassesExactlyTheSound : Type 0
PassesExactlyTheSound = (file : List ℕ) (start end manner : ℕ) (r : GvdbCheck) → Checking file start end manner r → (r.number ≡ 0) ↔ SoundTable (read_by manner) file start end

-- 40 with the first item that breaks a rule, and the first rule that it breaks
abbrev pub NamesTheFirst : Type 0
NamesTheFirst = (file : List ℕ) (start end manner : ℕ) (r : GvdbCheck) → Checking file start end manner r → r.number ≡ 40 → BrokenAt (read_by manner) file start end r.rule r.item

-- rule 1 comes with the number and the offset that listing that item answers, whatever the buffer; no other rule and no other answer with either
abbrev pub SaysWhy : Type 0
SaysWhy =
    (file : List ℕ) (start end manner : ℕ) (r : GvdbCheck) → Checking file start end manner r
    → (r.rule ≡ 1 → (out : List ℕ) (k : GvdbKey) (left : List ℕ) → Listing file start end r.item out k left → (r.why ≡ k.number) × (r.at ≡ k.at))
    × ((r.rule ≡ 1 → ⊥) → (r.why ≡ 0) × (r.at ≡ 0))

-- a table that does not open is refused with the number of its opening
abbrev pub OpensFirst : Type 0
OpensFirst =
    (file : List ℕ) (start end manner : ℕ) (o : GvdbOpened) (r : GvdbCheck) → Opening file start end o → Checking file start end manner r → (o.number ≡ 0 → ⊥) → r.number ≡ o.number
