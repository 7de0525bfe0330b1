-- A sound table: it opens; each item's key reads and is looked up as that very item; each kind is known and each value pointer is good;
-- each parent is a container; a container lists precisely the items that name it as parent, once each.
use Rattle.std.specs.Prelude.{ℕ, ◌-◌, ◌%◌, ◌<◌, ◌≡◌, ◌⊎◌, ◌↔◌, List, length, Ok, Some}
use Rattle.layout.specs.declared.kind.Kind.{Kind}
use Rattle.layout.specs.declared.table.Table.{Table}
use Rattle.layout.specs.declared.item.Item.{Item}
use Rattle.layout.specs.Kind.{kind_byte}
use Rattle.layout.specs.Pointer.{open_pointer}
use Rattle.layout.specs.Table.{open_table}
use Rattle.layout.specs.Item.{item_at, no_item}
use Rattle.read_chain.specs.Chain.{Joined, key_of}
use Rattle.check_rules.specs.declared.checked.Checked.{Checked}
use Rattle.read_listing.specs.Children.{child_at, child_count}
use Rattle.read_find.specs.Find.{Manner}
use Rattle.check_rules.specs.Rules.{index_of, check_table}

-- the kind is known, and the value pointer opens as it asks: 'v' at 8, 'H' as a table, 'L' at 4 with a length divisible by 4
pub data ValueGood (file : List ℕ) (item : Item) : Type 0 where
  value : item.kind ≡ kind_byte Kind.Value → open_pointer (length file) item.from item.to 8 ≡ Ok tt → ValueGood file item
  table : item.kind ≡ kind_byte Kind.Table → {t : Table} → open_table file item.from item.to ≡ Ok t → ValueGood file item
  list : item.kind ≡ kind_byte Kind.Container → open_pointer (length file) item.from item.to 4 ≡ Ok tt
      → (item.to - item.from) % 4 ≡ 0 → ValueGood file item

-- an index is among a container's children
abbrev pub InList : List ℕ → Item → ℕ → Type 0
InList file item index = (k : ℕ) × (k < child_count item) × (child_at file item.from k ≡ index)

pub record SoundIn (manner : Manner) (file : List ℕ) (t : Table) : Type 0 where
  -- its key reads, and lookup of that key answers this very item
  pub keys : (i : ℕ) → i < t.count → (key : List ℕ) × (key_of file t t.count i ≡ Joined.joined key) × (index_of manner file t key ≡ Some i)
  -- its kind is known, and its value pointer is good
  pub values : (i : ℕ) → i < t.count → ValueGood file (item_at file t i)
  -- it is a root, or its parent is a container
  pub parents : (i : ℕ) → i < t.count
      → ((item_at file t i).parent ≡ no_item) ⊎ (((item_at file t i).parent < t.count) × ((item_at file t (item_at file t i).parent).kind ≡ kind_byte Kind.Container))
  -- a container lists precisely the items that name it as parent
  pub lists : (i j : ℕ) → i < t.count → (item_at file t i).kind ≡ kind_byte Kind.Container
      → InList file (item_at file t i) j ↔ ((j < t.count) × ((item_at file t j).parent ≡ i))
  -- and each of them once
  pub once : (i k l : ℕ) → i < t.count → (item_at file t i).kind ≡ kind_byte Kind.Container → k < child_count (item_at file t i) → l < child_count (item_at file t i)
      → child_at file (item_at file t i).from k ≡ child_at file (item_at file t i).from l → k ≡ l

unfoldable pub SoundTable : Manner → List ℕ → ℕ → ℕ → Type 0
SoundTable manner file start end = (t : Table) × (open_table file start end ≡ Ok t) × SoundIn manner file t

-- the statement: the check passes exactly the sound tables
abbrev pub PassesExactlyTheSound : Type 0
PassesExactlyTheSound =
    (manner : Manner) (file : List ℕ) (start end : ℕ) → (check_table manner file start end ≡ Checked.Sound) ↔ SoundTable manner file start end
