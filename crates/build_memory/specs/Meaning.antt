-- What a builder's memory means: the builder of the crate `model` that it holds.
use Rattle.std.specs.Prelude.{ℕ, zero, suc, ◌-◌, not, List, [], ◌∷◌, ◌++◌, length, eqb}
use Rattle.words.specs.Choice.{pick}
use Rattle.words.specs.Store.{part}
use Rattle.layout.specs.Item.{no_item}
use Rattle.model.specs.Table.{Content, Entry}
use Rattle.model.specs.Builder.{Standing, Builder}
use Rattle.layout.specs.Kind.{value_kind, table_kind}
use Rattle.build_memory.specs.Memory.{table_total, item_total, room_used, table_separator, table_placed, item_table, item_parent, item_kind, value_start, value_size, item_guest, key_of}

-- what item i holds
unfoldable pub content_of : List ℕ → List ℕ → ℕ → Content
content_of ws ar i =
    pick (eqb (item_kind ws i) value_kind) (Content.bytes (part ar (value_start ws i) (value_size ws i)))
    (pick (eqb (item_kind ws i) table_kind) (Content.nested (item_guest ws i)) Content.container)

unfoldable pub entry_of : List ℕ → List ℕ → ℕ → Entry
entry_of ws ar i = record {
  table = item_table ws i;
  key = key_of ws ar i;
  content = content_of ws ar i;
  above = pick (eqb (item_parent ws i) 0) no_item (item_parent ws i - 1);
}

unfoldable pub standing_of : List ℕ → ℕ → Standing
standing_of ws t = record { separator = table_separator ws t; placed = not (eqb (table_placed ws t) 0) }

-- f 0, f 1, .. n of them
unfoldable pub listed : {A : Type 0} → (ℕ → A) → ℕ → List A
listed f zero = []
listed f (suc n) = listed f n ++ (f n ∷ [])

unfoldable pub meaning : List ℕ → List ℕ → Builder
meaning ws ar = record {
  room = length ar;
  used = room_used ws;
  tables = listed (standing_of ws) (table_total ws);
  items = listed (entry_of ws ar) (item_total ws);
}
