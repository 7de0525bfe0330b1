-- THE WHOLE FILE, from document 02, 'The file header'. A file is the image of a write that succeeds, with the header laid over it by the write's own pointer, in
-- either byte order. Its header reads back as that order and pointer; and by that pointer demands 2 and 3 hold of the file as of the image.
use Rattle.std.specs.Prelude.{ℕ, ◌≡◌, List, [], ◌∷◌, take, eqb}
use Rattle.words.specs.Choice.{pick}
use Rattle.layout.specs.Limits.{deepest}
use Rattle.build_memory.specs.Memory.{Memory}
use Rattle.answers.specs.declared.header.GvdbHeader.{GvdbHeader}
use Rattle.answers.specs.Manner.{form_of}
use Rattle.demands.specs.Calls.{Call, Does, Event, History}
use Rattle.demands.specs.Readers.{ReadingHeader, LayingHeader}
use Rattle.demands.specs.Demand2.{Answers}
use Rattle.demands.specs.Demand3.{AllPass}

-- a write of table t that succeeds, and a call that lays the header into as many bytes as the write says, and leaves `file`
pub record FileLaid (m : Memory) (t big manner filter start end : ℕ) (number : ℕ) (file : List ℕ) : Type 0 where
  pub buffer : List ℕ
  pub size : ℕ
  pub after : Memory
  pub left : List ℕ
  pub writes : Does m (Call.write t buffer manner filter) (0 ∷ start ∷ end ∷ size ∷ []) after left
  pub lays : LayingHeader (take size left) big start end number file

-- the second call succeeds too
abbrev pub HeaderIsTaken : Type 0
HeaderIsTaken = (m : Memory) (t big manner filter start end number : ℕ) (file : List ℕ) → FileLaid m t big manner filter start end number file → number ≡ 0

-- the header reads back: the order, 0 or 1, and the root pointer
abbrev pub HeaderReadsBack : Type 0
HeaderReadsBack =
    (m : Memory) (t big manner filter start end number : ℕ) (file : List ℕ) → FileLaid m t big manner filter start end number file
    → (r : GvdbHeader) → ReadingHeader file r → r ≡ record { number = 0; big = pick (eqb big 0) 0 1; start = start; end = end }

abbrev pub Demand2File : Type 0
Demand2File =
    (room : ℕ) (events : List Event) (m : Memory) → History room events m
    → (t big manner filter start end number : ℕ) (file : List ℕ) → FileLaid m t big manner filter start end number file → (reader : ℕ) → form_of reader ≡ form_of manner → Answers reader events m file deepest t start end

abbrev pub Demand3File : Type 0
Demand3File = (m : Memory) (t big manner filter start end number : ℕ) (file : List ℕ) → FileLaid m t big manner filter start end number file → (reader : ℕ) → form_of reader ≡ form_of manner → AllPass reader file deepest start end
