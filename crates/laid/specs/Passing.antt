-- WHATEVER IS LAID, PASSES THE CHECK: the statements, in the words of document 01 under 'The check's six rules'. Each is for every manner of
-- reading and every number of filter words that agree, of tables laid by its rule for a byte, and for every file of at most 16,777,216 bytes.
use Rattle.std.specs.Prelude.{ℕ, zero, suc, ◌%◌, ◌≤◌, ◌≡◌, List, length, Ok}
use Rattle.words.specs.Store.{put_at}
use Rattle.layout.specs.Limits.{longest_file, deepest}
use Rattle.read.specs.Lookup.{lookup_table}
use Rattle.check_rules.specs.declared.checked.Checked.{Checked}
use Rattle.check_rules.specs.Rules.{check_table}
use Rattle.model.specs.Table.{Content, State, Has}
use Rattle.layout.specs.Sizes.{header_size}
use Rattle.image.specs.Image.{table_bytes, image_of}
use Rattle.image.specs.WellFormed.{Writable}
use Rattle.image.specs.Laid.{Holds}
use Rattle.laid.specs.Back.{Lay, end_of}

-- the check of table t at `at`, by the pointer of its table chunk, passes: it opens, and no item breaks one of the six rules
abbrev pub Passes : Lay → List ℕ → State → ℕ → ℕ → Type 0
Passes lay file state t at = check_table lay.manner file at (end_of lay.filter state t at) ≡ Checked.Sound

-- it passes, and so does every table nested in it, to the last level: the check covers the one table it is given, and lookup of a nested
-- table's key answers the pointer by which that one is checked
unfoldable pub AllPass : Lay → List ℕ → State → ℕ → ℕ → ℕ → Type 0
AllPass lay file state zero t at = ⊥
AllPass lay file state (suc d) t at =
    Passes lay file state t at
    × ((i u : ℕ) → Has (state t).members i → (state t).content i ≡ Content.nested u
    → (from : ℕ) × (lookup_table lay.manner file at (end_of lay.filter state t at) ((state t).key i) ≡ Ok (record { start = from; end = end_of lay.filter state u from }))
    × AllPass lay file state d u from)

-- a table that may be written, wherever a file holds it at a multiple of 4, passes
abbrev pub LaidTablePasses : Type 0
LaidTablePasses =
    (lay : Lay) (file : List ℕ) (state : State) (d t at : ℕ) → Holds file at (table_bytes lay.manner.byte lay.filter state (suc d) t at) → length file ≤ longest_file → at % 4 ≡ 0
    → Writable state (suc d) t → Passes lay file state t at

-- with every table nested in it
abbrev pub LaidTablesAllPass : Type 0
LaidTablesAllPass =
    (lay : Lay) (file : List ℕ) (state : State) (d t at : ℕ) → Holds file at (table_bytes lay.manner.byte lay.filter state d t at) → length file ≤ longest_file → at % 4 ≡ 0
    → Writable state d t → AllPass lay file state d t at

-- an image put to the front of a buffer that it fits: the root table, by the root pointer from 24 to 24 + 8 + 4w + 28n for w filter words and n items, passes, and
-- every table nested in it
abbrev pub ImagePasses : Type 0
ImagePasses =
    (lay : Lay) (state : State) (root : ℕ) → Writable state deepest root → (buffer : List ℕ) → length buffer ≤ longest_file
    → length (image_of lay.manner.byte lay.filter state root) ≤ length buffer → AllPass lay (put_at buffer 0 (image_of lay.manner.byte lay.filter state root)) state deepest root header_size
