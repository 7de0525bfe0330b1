-- Looking up a value or a nested table, from document 01, 'Order': opening, 8, 12, 13, then 2 or 3 of the value pointer, and for a
-- nested table 4 to 7.
use Rattle.std.specs.Prelude.{ℕ, List, length, eqb, Result, Ok, Err, Option, Some, None}
use Rattle.layout.specs.declared.refusal.Refusal.{Refusal}
use Rattle.layout.specs.declared.pointer.Pointer.{Pointer}
use Rattle.words.specs.Choice.{pick}
use Rattle.text.specs.Utf8.{first_bad, is_utf8}
use Rattle.layout.specs.declared.refusal.Refusal.TheVariants.{KeyNotUtf8, KeyNotFound, OtherKind}
use Rattle.layout.specs.declared.kind.Kind.{Kind}
use Rattle.layout.specs.declared.table.Table.{Table}
use Rattle.layout.specs.declared.item.Item.{Item}
use Rattle.layout.specs.Kind.{kind_byte}
use Rattle.layout.specs.Pointer.{open_pointer}
use Rattle.layout.specs.Table.{open_table}
use Rattle.layout.specs.Item.{item_at}
use Rattle.read_find.specs.Find.{Manner, find_item}

-- 12 where nothing is found
unfoldable pub at_found : List ℕ → Table → Option ℕ → Result Item Refusal
at_found file t (Some index) = Ok (item_at file t index)
at_found file t None = Err KeyNotFound

-- 8 with the offset in the key, 12, or the item, in an open table
unfoldable pub lookup_in : Manner → List ℕ → List ℕ → Table → Result Item Refusal
lookup_in manner file key t = pick (is_utf8 key) (at_found file t (find_item manner file t key)) (Err (KeyNotUtf8 (first_bad key)))

unfoldable pub at_opened : Result Table Refusal → (Table → Result Item Refusal) → Result Item Refusal
at_opened (Ok t) sought = sought t
at_opened (Err why) sought = Err why

-- opening, 8, 12, or the item
unfoldable pub lookup_item : Manner → List ℕ → ℕ → ℕ → List ℕ → Result Item Refusal
lookup_item manner file start end key = at_opened (open_table file start end) (λ t. lookup_in manner file key t)

unfoldable pub at_pointer : Result (Unit {0}) Refusal → Item → Result Pointer Refusal
at_pointer (Ok _) item = Ok (record { start = item.from; end = item.to })
at_pointer (Err why) item = Err why

unfoldable pub at_nested : Result Table Refusal → Item → Result Pointer Refusal
at_nested (Ok t) item = Ok (record { start = item.from; end = item.to })
at_nested (Err why) item = Err why

-- 13 where the kind is not 'v', then 2 or 3 of the value pointer, whose alignment is 8
unfoldable pub value_of : List ℕ → Item → Result Pointer Refusal
value_of file item =
    pick (eqb item.kind (kind_byte Kind.Value))
    (at_pointer (open_pointer (length file) item.from item.to 8) item)
    (Err OtherKind)

-- 13 where the kind is not 'H', then what opening the nested table refuses
unfoldable pub nested_of : List ℕ → Item → Result Pointer Refusal
nested_of file item =
    pick (eqb item.kind (kind_byte Kind.Table))
    (at_nested (open_table file item.from item.to) item)
    (Err OtherKind)

unfoldable pub at_item : Result Item Refusal → (Item → Result Pointer Refusal) → Result Pointer Refusal
at_item (Ok item) looked = looked item
at_item (Err why) looked = Err why

unfoldable pub lookup_value : Manner → List ℕ → ℕ → ℕ → List ℕ → Result Pointer Refusal
lookup_value manner file start end key = at_item (lookup_item manner file start end key) (λ item. value_of file item)

unfoldable pub lookup_table : Manner → List ℕ → ℕ → ℕ → List ℕ → Result Pointer Refusal
lookup_table manner file start end key = at_item (lookup_item manner file start end key) (λ item. nested_of file item)
