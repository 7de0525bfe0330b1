-- THE FILTER OF A LAID TABLE, from document 02 §11: in each of its words, as a reader reads it, a bit is set exactly where an item of the table asks for it by the hash of its key.
use Rattle.std.specs.Prelude.{ℕ, suc, ◌+◌, ◌*◌, ◌/◌, ◌%◌, ◌<◌, ◌≡◌, ◌⊎◌, ◌↔◌, true, List}
use Rattle.words.specs.Field.{word_at}
use Rattle.words.specs.Bits.{bit_set}
use Rattle.key_hash.specs.Hash.{hash_by}
use Rattle.model.specs.Table.{Rows, State, Has}
use Rattle.image.specs.Image.{table_bytes}
use Rattle.image.specs.WellFormed.{WellFormed}
use Rattle.image.specs.Laid.{Holds}

-- an item falls to word k, and b is one of its two bits
abbrev pub AsksFor : (ℕ → ℕ) → ℕ → Rows → ℕ → ℕ → ℕ → Type 0
AsksFor rule filter table k b i = (hash_by rule (table.key i) / 32 % filter ≡ k) × ((b ≡ hash_by rule (table.key i) % 32) ⊎ (b ≡ hash_by rule (table.key i) / 32 % 32))

abbrev pub FilterLaid : Type 0
FilterLaid =
    (rule : ℕ → ℕ) (filter : ℕ) (file : List ℕ) (state : State) (d t at : ℕ) → Holds file at (table_bytes rule filter state (suc d) t at) → WellFormed (state t)
    → (k b : ℕ) → k < filter → (bit_set (word_at file (at + 8 + 4 * k)) b ≡ true) ↔ ((i : ℕ) × Has (state t).members i × AsksFor rule filter (state t) k b i)
