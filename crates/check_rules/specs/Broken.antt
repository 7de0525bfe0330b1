-- What is answered with 40: the first item that does not keep every rule, and the first rule that it breaks; for rule 1 with what listing that
-- item refuses.
use Rattle.std.specs.Prelude.{ℕ, ◌<◌, ◌≡◌, ◌↔◌, List, true, false, Ok, Err}
use Rattle.layout.specs.declared.refusal.Refusal.{Refusal}
use Rattle.layout.specs.declared.table.Table.{Table}
use Rattle.layout.specs.Kind.{kind_known}
use Rattle.layout.specs.Table.{open_table}
use Rattle.layout.specs.Item.{item_at}
use Rattle.read_chain.specs.Chain.{Joined}
use Rattle.read_listing.specs.Listing.{key_at, listed}
use Rattle.check_rules.specs.declared.checked.Checked.{Checked}
use Rattle.read_find.specs.Find.{Manner}
use Rattle.check_rules.specs.Rules.{key_lists, key_finds, value_opens, children_good, parent_good, check_table}

module _ (manner : Manner) (file : List ℕ) (t : Table) (i : ℕ) where
  -- every rule holds of an item
  pub record Keeps : Type 0 where
    pub one : key_lists file t i ≡ true
    pub two : key_finds manner file t i ≡ true
    pub three : kind_known (item_at file t i).kind ≡ true
    pub four : value_opens file (item_at file t i) ≡ true
    pub five : children_good file t i (item_at file t i) ≡ true
    pub six : parent_good file t i (item_at file t i) ≡ true

  -- a rule is the first that an item breaks: those before it hold
  pub data Breaks : ℕ → Type 0 where
    first : key_lists file t i ≡ false → Breaks 1
    second : key_lists file t i ≡ true → key_finds manner file t i ≡ false → Breaks 2
    third : key_lists file t i ≡ true → key_finds manner file t i ≡ true → kind_known (item_at file t i).kind ≡ false → Breaks 3
    fourth : key_lists file t i ≡ true → key_finds manner file t i ≡ true → kind_known (item_at file t i).kind ≡ true
        → value_opens file (item_at file t i) ≡ false → Breaks 4
    fifth : key_lists file t i ≡ true → key_finds manner file t i ≡ true → kind_known (item_at file t i).kind ≡ true
        → value_opens file (item_at file t i) ≡ true → children_good file t i (item_at file t i) ≡ false → Breaks 5
    sixth : key_lists file t i ≡ true → key_finds manner file t i ≡ true → kind_known (item_at file t i).kind ≡ true
        → value_opens file (item_at file t i) ≡ true → children_good file t i (item_at file t i) ≡ true → parent_good file t i (item_at file t i) ≡ false → Breaks 6

-- the table opens, the items before this one keep every rule, and this one breaks this rule first
pub record BrokenAt (manner : Manner) (file : List ℕ) (start end broken item : ℕ) : Type 0 where
  pub table : Table
  pub opens : open_table file start end ≡ Ok table
  pub below : item < table.count
  pub before : (k : ℕ) → k < item → Keeps manner file table k
  pub breaks : Breaks manner file table item broken

-- the statement: 40 names the first item and its first broken rule, which is rule 1 just where it comes with a refusal: that of the item's key
abbrev pub NamesTheFirst : Type 0
NamesTheFirst =
    (manner : Manner) (file : List ℕ) (start end item : ℕ)
    → ((broken : ℕ) → (check_table manner file start end ≡ Checked.Broken broken item) ↔ (BrokenAt manner file start end broken item × (broken ≡ 1 → ⊥)))
    × ((why : Refusal) → (check_table manner file start end ≡ Checked.Unlisted why item) ↔ (BrokenAt manner file start end 1 item × (key_at file start end item ≡ Joined.broken why)))

-- the statement: the refusal of rule 1 is what listing that item refuses with, whatever the room
abbrev pub UnlistedWhy : Type 0
UnlistedWhy =
    (manner : Manner) (file : List ℕ) (start end item room : ℕ) (why : Refusal)
    → check_table manner file start end ≡ Checked.Unlisted why item → listed (key_at file start end item) room item ≡ Err why
