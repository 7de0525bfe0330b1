-- What a lookup, a value listing or a listing of children answers lies in the file: a predicate by cases on the answer, shown of the definitions test by test.
use Rattle.std.specs.Prelude.{Result, Ok, Err}
use Rattle.layout.specs.declared.refusal.Refusal.{Refusal}
use Rattle.layout.specs.declared.pointer.Pointer.{Pointer}
use Rattle.read_listing.specs.declared.children.Child.{Child}
use Prim.Native.Nat.{ℕ, ◌+◌, ◌≤◌}
use mathlib.Core.Path.{◌≡◌, refl}
use mathlib.Core.List.{List}
use lib.ListN.{length}
use Rattle.words.proofs.ChoiceLaws.{pick_with}
use Rattle.layout.specs.declared.table.Table.{Table}
use Rattle.layout.specs.declared.item.Item.{Item}
use Rattle.layout.specs.Pointer.{open_pointer}
use Rattle.layout.specs.Table.{table_in, where_inside, open_table}
use Rattle.layout.specs.Item.{item_at}
use Rattle.layout.proofs.OpenLaws.{pointer_inside}
use Rattle.read_listing.specs.declared.listing.Valued.{Valued}
use Rattle.read.specs.Lookup.{lookup_in, at_pointer, at_nested, value_of, nested_of, at_item, lookup_value, lookup_table}
use Rattle.read_listing.specs.Listing.{next_value, value_opened, value_from, value_in_opened, value_at}
use Rattle.read_find.specs.Find.{Manner}
use Rattle.read_listing.specs.Children.{child_at, open_list, at_fragment, child_named, child_of, child_from, child_of_sought, child_in_opened, next_child}

-- ---- a pointer whose table opens

unfoldable pub OpenedFits : ℕ → ℕ → ℕ → Result Table Refusal → Type 0
OpenedFits size start end (Ok t) = (start ≤ end) × (end ≤ size)
OpenedFits size start end (Err why) = Unit

pointed_fits : (size start end : ℕ) (o : Result Table Refusal) → (start ≤ end) × (end ≤ size) → OpenedFits size start end o
unfolding OpenedFits
pointed_fits size start end (Ok t) h = h
pointed_fits size start end (Err why) h = tt

pub opened_fits : (file : List ℕ) (start end : ℕ) → OpenedFits (length file) start end (open_table file start end)
unfolding open_table OpenedFits
opened_fits file start end =
    pick_with (OpenedFits (length file) start end) _ _ _ (λ _. tt) (λ _. by_pointer (open_pointer (length file) start end 4) refl)
  where
    by_pointer : (p : Result (Unit {0}) Refusal) → open_pointer (length file) start end 4 ≡ p → OpenedFits (length file) start end (where_inside p (table_in file start end))
    by_pointer (Ok _) e = pointed_fits (length file) start end (table_in file start end) (pointer_inside _ _ _ _ e)
    by_pointer (Err why) e = tt

-- ---- lookup

unfoldable pub LookedFits : List ℕ → Result Pointer Refusal → Type 0
LookedFits file (Ok p) = (p.start ≤ p.end) × (p.end ≤ length file)
LookedFits file (Err why) = Unit

value_fits : (file : List ℕ) (item : Item) → LookedFits file (value_of file item)
unfolding value_of at_pointer LookedFits
value_fits file item = pick_with (LookedFits file) _ _ _ (λ _. by_pointer (open_pointer (length file) item.from item.to 8) refl) (λ _. tt)
  where
    by_pointer : (p : Result (Unit {0}) Refusal) → open_pointer (length file) item.from item.to 8 ≡ p → LookedFits file (at_pointer p item)
    by_pointer (Ok _) e = pointer_inside _ _ _ _ e
    by_pointer (Err why) e = tt

nested_fits : (file : List ℕ) (item : Item) → LookedFits file (nested_of file item)
unfolding nested_of at_nested LookedFits OpenedFits
nested_fits file item =
    pick_with (LookedFits file) _ _ _ (λ _. by_table (open_table file item.from item.to) (opened_fits file item.from item.to)) (λ _. tt)
  where
    by_table : (o : Result Table Refusal) → OpenedFits (length file) item.from item.to o → LookedFits file (at_nested o item)
    by_table (Ok t) h = h
    by_table (Err why) h = tt

at_item_fits : (file : List ℕ) (s : Result Item Refusal) (of : Item → Result Pointer Refusal) → ((item : Item) → LookedFits file (of item)) → LookedFits file (at_item s of)
unfolding at_item LookedFits
at_item_fits file (Ok item) of fits = fits item
at_item_fits file (Err why) of fits = tt

pub value_looked_fits : (manner : Manner) (file : List ℕ) (start end : ℕ) (key : List ℕ) → LookedFits file (lookup_value manner file start end key)
unfolding lookup_value
value_looked_fits manner file start end key = at_item_fits file _ _ (λ item. value_fits file item)

pub table_looked_fits : (manner : Manner) (file : List ℕ) (start end : ℕ) (key : List ℕ) → LookedFits file (lookup_table manner file start end key)
unfolding lookup_table
table_looked_fits manner file start end key = at_item_fits file _ _ (λ item. nested_fits file item)

-- ---- value listing

unfoldable pub ValuedFits : List ℕ → Valued → Type 0
ValuedFits file (Valued.Value index start end next) = (start ≤ end) × (end ≤ length file)
ValuedFits file (Valued.Unopened why index next) = Unit
ValuedFits file (Valued.Refused why) = Unit

value_from_fits : (file : List ℕ) (t : Table) (index : ℕ) → ValuedFits file (value_from file t index)
unfolding value_from value_opened ValuedFits
value_from_fits file t index = pick_with (ValuedFits file) _ _ _ (λ _. tt) (λ _. by_pointer (open_pointer (length file) (item_at file t index).from (item_at file t index).to 8) refl)
  where
    by_pointer : (p : Result (Unit {0}) Refusal) → open_pointer (length file) (item_at file t index).from (item_at file t index).to 8 ≡ p
        → ValuedFits file (value_opened p index (item_at file t index))
    by_pointer (Ok _) e = pointer_inside _ _ _ _ e
    by_pointer (Err why) e = tt

pub valued_fits : (file : List ℕ) (start end at : ℕ) → ValuedFits file (value_at file start end at)
unfolding value_at value_in_opened ValuedFits
valued_fits file start end at = by_table (open_table file start end)
  where
    by_table : (o : Result Table Refusal) → ValuedFits file (value_in_opened file at o)
    by_table (Ok t) = value_from_fits file t (next_value file t at)
    by_table (Err why) = tt

-- ---- children of a container

unfoldable pub ChildedFits : List ℕ → Result Child Refusal → Type 0
ChildedFits file (Ok x) = (x.start ≤ x.end) × (x.end ≤ length file)
ChildedFits file (Err why) = Unit

child_of_fits : (file : List ℕ) (t : Table) (index at : ℕ) → ChildedFits file (child_of file t index at)
unfolding child_of child_named at_fragment ChildedFits
child_of_fits file t index at =
    let P = ChildedFits file in
    pick_with P _ _ _ (λ _. tt) (λ _. pick_with P _ _ _
    (λ _. by_pointer (open_pointer (length file) (item_at file t index).key ((item_at file t index).key + (item_at file t index).size) 1) refl) (λ _. tt))
  where
    by_pointer : (p : Result (Unit {0}) Refusal) → open_pointer (length file) (item_at file t index).key ((item_at file t index).key + (item_at file t index).size) 1 ≡ p
        → ChildedFits file (at_fragment p file index (item_at file t index) at)
    by_pointer (Ok _) e = pick_with (ChildedFits file) _ _ _ (λ _. pointer_inside _ _ _ _ e) (λ _. tt)
    by_pointer (Err why) e = tt

pub childed_fits : (manner : Manner) (file : List ℕ) (start end : ℕ) (key : List ℕ) (at : ℕ) → ChildedFits file (next_child manner file start end key at)
unfolding next_child child_in_opened child_of_sought child_from ChildedFits
childed_fits manner file start end key at = by_table (open_table file start end)
  where
    by_list : (t : Table) (item : Item) (p : Result (Unit {0}) Refusal) → ChildedFits file (child_from p file t item at)
    by_list t item (Ok _) = pick_with (ChildedFits file) _ _ _ (λ _. child_of_fits file t (child_at file item.from at) at) (λ _. tt)
    by_list t item (Err why) = tt

    by_item : (t : Table) (s : Result Item Refusal) → ChildedFits file (child_of_sought s file t at)
    by_item t (Ok item) = by_list t item (open_list file item)
    by_item t (Err why) = tt

    by_table : (o : Result Table Refusal) → ChildedFits file (child_in_opened manner file key at o)
    by_table (Ok t) = by_item t (lookup_in manner file key t)
    by_table (Err why) = tt
