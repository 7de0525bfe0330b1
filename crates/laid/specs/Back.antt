-- Where a table of the model and its items stand in a file that holds the table, and how they read there.
use Rattle.std.specs.Prelude.{ℕ, ◌+◌, ◌%◌, ◌^◌, ◌≤◌, ◌<◌, ◌≡◌, ◌⊎◌, List, length}
use Rattle.key_hash.specs.Hash.{hash_by}
use Rattle.layout.specs.declared.table.Table.{Table}
use Rattle.layout.specs.declared.item.Item.{Item}
use Rattle.layout.specs.Kind.{kind_byte}
use Rattle.read_find.specs.Find.{Manner}
use Rattle.model.specs.Table.{State, kind_of}
use Rattle.image.specs.Index.{laid_index}
use Rattle.layout.specs.Sizes.{chunk_size}
use Rattle.image.specs.Plan.{Plan, first_word, place, value_start}
use Rattle.image.specs.Image.{parent_index, covers_of, plan_of, table_bytes}
use Rattle.image.specs.WellFormed.{Writable}
use Rattle.image.specs.Laid.{Holds}
use Rattle.image.specs.Fits.{opened_as}

-- a manner and a number of filter words that agree: the shift for the second bit is none, or the one by which it was laid
pub record Lay : Type 0 where
  pub manner : Manner
  pub filter : ℕ
  pub few : filter < 2 ^ 27
  pub shifts : (manner.shift (first_word filter) ≡ 0) ⊎ (manner.shift (first_word filter) ≡ 5)

-- where the pointer of table t at `at` ends, with so many filter words: with its table chunk
abbrev pub end_of : ℕ → State → ℕ → ℕ → ℕ
end_of filter state t at = at + chunk_size filter (length (state t).members)

-- what opens there: a table of as many items as table t has
abbrev pub table_opened : ℕ → State → ℕ → ℕ → Table
table_opened filter state t at = opened_as at filter (length (state t).members)

module _ (rule : ℕ → ℕ) (filter : ℕ) where
  -- table t with its items by index, nested tables as deep as d goes
  abbrev pub plan_at : State → ℕ → ℕ → Plan
  plan_at state d t = plan_of rule filter (λ u start. table_bytes rule filter state d u start) state (state t)

  -- where the value of item i starts, and how much of it the value pointer covers
  unfoldable pub value_offset : State → ℕ → ℕ → ℕ → ℕ → ℕ
  value_offset state d t at i =
      value_start (plan_at state d t) (laid_index rule (state t) i) (place (plan_at state d t) (end_of filter state t at) (laid_index rule (state t) i))

  abbrev pub covers_at : State → ℕ → ℕ → ℕ → ℕ
  covers_at state d t i = covers_of rule filter (λ u start. table_bytes rule filter state d u start) state (state t) i ((state t).content i)

  -- the record at the index of item i: the hash of its whole key, its parent's index, its kind, and the pointer of its value
  pub record ItemBack (file : List ℕ) (state : State) (d t at i : ℕ) (item : Item) : Type 0 where
    pub hash : item.hash ≡ hash_by rule ((state t).key i)
    pub parent : item.parent ≡ parent_index rule (state t) i
    pub kind : item.kind ≡ kind_byte (kind_of ((state t).content i))
    pub from : item.from ≡ value_offset state d t at i
    pub to : item.to ≡ value_offset state d t at i + covers_at state d t i
    pub fits : value_offset state d t at i + covers_at state d t i ≤ length file

  -- table u stands at `from`, whole, with what is nested in it as deep as d goes
  pub record NestedBack (file : List ℕ) (state : State) (d u from : ℕ) : Type 0 where
    pub held : Holds file from (table_bytes rule filter state d u from)
    pub even : from % 4 ≡ 0
    pub writable : Writable state d u
