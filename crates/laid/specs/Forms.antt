-- An image whose keys are all of ASCII bytes is the same in both forms: what could be laid before keeps every byte.
use Rattle.std.specs.Prelude.{ℕ, zero, suc, ◌≡◌, true}
use Rattle.key_hash.specs.Hash.{plain, signed}
use Rattle.text.specs.Ascii.{is_ascii}
use Rattle.layout.specs.Limits.{deepest}
use Rattle.model.specs.Table.{Content, State, Has}
use Rattle.image.specs.Image.{image_of}
use Rattle.image.specs.WellFormed.{Writable}

-- every key of table t is of ASCII bytes, and so in every table nested in it, as deep as d goes
unfoldable pub AsciiBelow : State → ℕ → ℕ → Type 0
AsciiBelow state zero t = Unit
AsciiBelow state (suc d) t =
    ((i : ℕ) → Has (state t).members i → is_ascii ((state t).key i) ≡ true)
    × ((i u : ℕ) → Has (state t).members i → (state t).content i ≡ Content.nested u → AsciiBelow state d u)

-- the statement
abbrev pub AsciiImage : Type 0
AsciiImage = (filter : ℕ) (state : State) (t : ℕ) → Writable state deepest t → AsciiBelow state deepest t → image_of signed filter state t ≡ image_of plain filter state t
