-- An item, from document 01, 'Layout of a table'.
use Rattle.std.specs.Prelude.{ℕ, ◌+◌, ◌*◌, List, get_or}
use Rattle.words.specs.Field.{half_at, word_at}
use Rattle.layout.specs.Sizes.{record_size}
use Rattle.layout.specs.declared.table.Table.{Table}
use Rattle.layout.specs.declared.item.Item.{Item}

-- the fields of the item at an index
unfoldable pub item_at : List ℕ → Table → ℕ → Item
item_at file t index = record {
  hash = word_at file (t.items + record_size * index);
  parent = word_at file (t.items + record_size * index + 4);
  key = word_at file (t.items + record_size * index + 8);
  size = half_at file (t.items + record_size * index + 12);
  kind = get_or file (t.items + record_size * index + 14) 0;
  from = word_at file (t.items + record_size * index + 16);
  to = word_at file (t.items + record_size * index + 20);
}

-- the number that is no item: the parent of a root
abbrev pub no_item : ℕ
no_item = 4294967295
