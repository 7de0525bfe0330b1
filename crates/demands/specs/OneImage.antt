-- ONE CONTENT, ONE IMAGE, from document 02 §14. 'Two histories of calls, both ending in a write that succeeds, which leave tables with the same keys, kinds, values, child orders and
-- nested contents lay the same image, whatever was replaced on the way; and equal images mean equal contents. Form and filter size are the same in both; separators take no part.'
-- What a table holds, and when two hold the same, is said in `Same.antt` of the crate `same`.
use Rattle.std.specs.Prelude.{ℕ, ◌≡◌, ◌↔◌, List, [], ◌∷◌, take}
use Rattle.key_hash.specs.declared.hash.Form.{Form}
use Rattle.layout.specs.Limits.{deepest}
use Rattle.model.specs.Table.{State}
use Rattle.build_memory.specs.Memory.{Memory}
use Rattle.answers.specs.Manner.{form_of}
use Rattle.same.specs.Same.{Same}
use Rattle.demands.specs.Calls.{Call, Does, Event, History}
use Rattle.demands.specs.Readers.{LayingHeader}
use Rattle.demands.specs.Model.{tables_of, built}

-- a history, and a write after it that succeeds, in a form and with so many filter words
pub record Wrote (form : Form) (filter : ℕ) : Type 0 where
  pub room : ℕ
  pub events : List Event
  pub memory : Memory
  pub history : History room events memory
  pub table : ℕ
  pub buffer : List ℕ
  pub manner : ℕ
  pub start : ℕ
  pub end : ℕ
  pub size : ℕ
  pub after : Memory
  pub left : List ℕ
  pub named : form_of manner ≡ form
  pub writes : Does memory (Call.write table buffer manner filter) (0 ∷ start ∷ end ∷ size ∷ []) after left

-- the tables that it leaves, and the image: as many bytes of the buffer as the answer says
abbrev pub tables : {form : Form} {filter : ℕ} → Wrote form filter → State
tables w = tables_of (built w.room w.events)

abbrev pub image : {form : Form} {filter : ℕ} → Wrote form filter → List ℕ
image w = take w.size w.left

abbrev pub OneContentOneImage : Type 0
OneContentOneImage = (form : Form) (filter : ℕ) (a b : Wrote form filter) → Same (tables a) (tables b) deepest a.table b.table ↔ (image a ≡ image b)

-- equal images have one root pointer
abbrev pub OneImageOnePointer : Type 0
OneImageOnePointer = (form : Form) (filter : ℕ) (a b : Wrote form filter) → image a ≡ image b → (a.start ≡ b.start) × (a.end ≡ b.end)

-- so the same holds of whole files, with the header of §1 laid over each image by its own pointer, in one byte order
abbrev pub OneContentOneFile : Type 0
OneContentOneFile =
    (form : Form) (filter : ℕ) (a b : Wrote form filter) (big number other : ℕ) (file copy : List ℕ)
    → LayingHeader (image a) big a.start a.end number file → LayingHeader (image b) big b.start b.end other copy
    → Same (tables a) (tables b) deepest a.table b.table ↔ (file ≡ copy)
