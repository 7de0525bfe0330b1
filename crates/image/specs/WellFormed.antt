-- What the builder keeps of every table that it can write.
use Rattle.std.specs.Prelude.{ℕ, zero, suc, ◌≤◌, ◌<◌, ◌≡◌, true, length, take}
use Rattle.text.specs.Utf8.{is_utf8}
use Rattle.model.specs.Table.{Content, Rows, State, Has, times, is_child}
use Rattle.layout.specs.Limits.{longest_key, most_items}
use Rattle.image.specs.Index.{index_in}

-- the item above a child is of the table, was made earlier, and the child's key starts with its key
pub record ChildFits (table : Rows) (i : ℕ) : Type 0 where
  pub member : Has table.members (table.above i)
  pub earlier : index_in table.members (table.above i) < index_in table.members i
  pub begins : take (length (table.key (table.above i))) (table.key i) ≡ table.key (table.above i)

pub record WellFormed (table : Rows) : Type 0 where
  pub few : length table.members ≤ most_items
  pub once : (i : ℕ) → times i table.members ≤ 1
  pub short : (i : ℕ) → Has table.members i → length (table.key i) ≤ longest_key
  pub utf8 : (i : ℕ) → Has table.members i → is_utf8 (table.key i) ≡ true
  pub distinct : (i j : ℕ) → Has table.members i → Has table.members j → table.key i ≡ table.key j → i ≡ j
  pub child : (i : ℕ) → Has table.members i → is_child table i ≡ true → ChildFits table i

-- table t is so, and every table nested in it, at most d tables deep
unfoldable pub Writable : State → ℕ → ℕ → Type 0
Writable state zero t = ⊥
Writable state (suc d) t =
    WellFormed (state t) × ((i u : ℕ) → Has (state t).members i → (state t).content i ≡ Content.nested u → Writable state d u)
