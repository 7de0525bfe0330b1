-- What the check has in common in the two forms: a table all of whose keys are of ASCII bytes gets one answer in both, and so it is sound in one exactly when in
-- the other.
use Rattle.std.specs.Prelude.{ℕ, ◌≡◌, ◌↔◌, true, List, Ok}
use Rattle.text.specs.Ascii.{is_ascii}
use Rattle.layout.specs.declared.table.Table.{Table}
use Rattle.layout.specs.Table.{open_table}
use Rattle.read_chain.specs.Chain.{Joined, key_of}
use Rattle.read_find.specs.Find.{rust}
use Rattle.read_listing.specs.Forms.{glib}
use Rattle.check_rules.specs.Rules.{check_table}
use Rattle.check_table.specs.Sound.{SoundTable}

-- every key of the table that reads is of ASCII bytes
abbrev pub AsciiKeys : List ℕ → Table → Type 0
AsciiKeys file t = (i : ℕ) → (key : List ℕ) → key_of file t t.count i ≡ Joined.joined key → is_ascii key ≡ true

-- the statement
abbrev pub AsciiCheck : Type 0
AsciiCheck =
    (file : List ℕ) (start end : ℕ) → ((t : Table) → open_table file start end ≡ Ok t → AsciiKeys file t)
    → (check_table glib file start end ≡ check_table rust file start end) × (SoundTable glib file start end ↔ SoundTable rust file start end)
