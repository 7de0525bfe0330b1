-- A table with an item of each kind: "a/" with its child "a/b", which holds 07, and "t", a table that holds "x" with 09.
use Rattle.std.specs.Prelude.{List, [], ◌∷◌}
use Rattle.layout.specs.Item.{no_item}
use Rattle.model.specs.Table.{Content, Entry, State, rows_of}
use Rattle.model.specs.Walk.{entry}

abbrev pub items : List Entry
items =
    entry 0 (97 ∷ 47 ∷ []) Content.container no_item
    ∷ entry 0 (97 ∷ 47 ∷ 98 ∷ []) (Content.bytes (7 ∷ [])) 0
    ∷ entry 0 (116 ∷ []) (Content.nested 1) no_item
    ∷ entry 1 (120 ∷ []) (Content.bytes (9 ∷ [])) no_item
    ∷ []

unfoldable pub sample : State
sample = rows_of items
