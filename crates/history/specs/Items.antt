-- What the words say of an item and of a table, whole.
use Rattle.std.specs.Prelude.{ℕ, List}
use Rattle.words.specs.Store.{part}
use Rattle.build_memory.specs.Memory.{table_separator, table_placed, table_height, item_table, item_parent, item_kind, value_start, value_size, item_guest, key_of}

-- parent: the index of its container plus 1, or 0; guest: the table held, where the kind says that one is
pub record Item : Type 0 where
  pub table : ℕ
  pub key : List ℕ
  pub parent : ℕ
  pub kind : ℕ
  pub value : List ℕ
  pub guest : ℕ

pub record Table : Type 0 where
  pub sep : ℕ
  pub placed : ℕ
  pub height : ℕ

abbrev pub item : ℕ → List ℕ → ℕ → ℕ → List ℕ → ℕ → Item
item t key parent kind value guest = record { table = t; key = key; parent = parent; kind = kind; value = value; guest = guest }

unfoldable pub item_of : List ℕ → List ℕ → ℕ → Item
item_of ws ar i =
    item (item_table ws i) (key_of ws ar i) (item_parent ws i) (item_kind ws i) (part ar (value_start ws i) (value_size ws i)) (item_guest ws i)

unfoldable pub table_of : List ℕ → ℕ → Table
table_of ws t = record { sep = table_separator ws t; placed = table_placed ws t; height = table_height ws t }
