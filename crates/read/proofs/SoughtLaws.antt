-- What a lookup answers, traced back to the item that it found: by cases on the answer of each stage.
use Rattle.std.specs.Prelude.{Result, Ok, Err, Option, Some, None}
use Rattle.layout.specs.declared.refusal.Refusal.{Refusal}
use Rattle.layout.specs.declared.pointer.Pointer.{Pointer}
use Prim.Native.Nat.{ℕ}
use mathlib.Core.Path.{◌≡◌, refl, ap}
use mathlib.Core.List.{List}
use mathlib.Core.Bool.{true}
use native.Mathlib.Omega.{arith}
use lib.ListN.{length}
use borrow.Author.Tests.{eqb-true}
use Rattle.words.proofs.ChoiceLaws.{pick_with}
use Rattle.text.specs.Utf8.{is_utf8}
use Rattle.layout.specs.declared.table.Table.{Table}
use Rattle.layout.specs.declared.item.Item.{Item}
use Rattle.layout.specs.Pointer.{open_pointer}
use Rattle.layout.specs.Table.{open_table}
use Rattle.layout.specs.Item.{item_at}
use Rattle.read_find.specs.Find.{Manner, find_item}
use Rattle.read.specs.Lookup.{at_found, lookup_in, at_opened, lookup_item, at_pointer, at_nested, value_of, nested_of, at_item, lookup_value, lookup_table}

-- the table opens, the key is UTF-8, and the item is the one found
pub record Seeks (manner : Manner) (file : List ℕ) (start end : ℕ) (key : List ℕ) (item : Item) : Type 0 where
  pub table : Table
  pub index : ℕ
  pub opens : open_table file start end ≡ Ok table
  pub text : is_utf8 key ≡ true
  pub found : find_item manner file table key ≡ Some index
  pub is : item_at file table index ≡ item

module _ (manner : Manner) (file : List ℕ) (start end : ℕ) (key : List ℕ) where
  found_item : (t : Table) → open_table file start end ≡ Ok t → is_utf8 key ≡ true
      → (f : Option ℕ) → find_item manner file t key ≡ f → {item : Item} → at_found file t f ≡ Ok item → Seeks manner file start end key item
  unfolding at_found
  found_item t opens text (Some i) found e = record { table = t; index = i; opens = opens; text = text; found = found; is = (cc) }
  found_item t opens text None found e = let z : ◌≡◌ {A = ℕ} 0 1 = cc in absurd (omega arith)

  opened_item : (o : Result Table Refusal) → open_table file start end ≡ o → {item : Item} → at_opened o (λ t. lookup_in manner file key t) ≡ Ok item → Seeks manner file start end key item
  unfolding at_opened lookup_in
  opened_item (Ok t) opens {item} =
      let P : Result Item Refusal → Type 0 = λ s. s ≡ Ok item → Seeks manner file start end key item in
      pick_with P _ _ _ (λ text e. found_item t opens text (find_item manner file t key) refl e) (λ _ e. let z : ◌≡◌ {A = ℕ} 0 1 = cc in absurd (omega arith))
  opened_item (Err why) opens = λ e. let z : ◌≡◌ {A = ℕ} 0 1 = cc in absurd (omega arith)

  sought_item : {item : Item} → lookup_item manner file start end key ≡ Ok item → Seeks manner file start end key item
  unfolding lookup_item
  sought_item e = opened_item (open_table file start end) refl e

-- an item's pointer, where it is of the kind asked
pub record Placed (kind : ℕ) (item : Item) (from to : ℕ) : Type 0 where
  pub kinded : item.kind ≡ kind
  pub starts : item.from ≡ from
  pub ends : item.to ≡ to

-- equal answers are equal pointers
pub same_pointer : {a b c d : ℕ} → ◌≡◌ {A = Result Pointer Refusal} (Ok (record { start = a; end = b })) (Ok (record { start = c; end = d })) → (a ≡ c) × (b ≡ d)
same_pointer {a} {b} {c} {d} e =
    let p : ◌≡◌ {A = Pointer} (record { start = a; end = b }) (record { start = c; end = d }) = cc in
    (ap (λ (q : Pointer). q.start) p, ap (λ (q : Pointer). q.end) p)

value_pointer : (file : List ℕ) (item : Item) {from to : ℕ} → value_of file item ≡ Ok (record { start = from; end = to }) → Placed 118 item from to
unfolding value_of at_pointer
value_pointer file item {from} {to} =
    let P : Result Pointer Refusal → Type 0 = λ l. l ≡ Ok (record { start = from; end = to }) → Placed 118 item from to in
    pick_with P _ _ _ (λ kind. by_pointer (eqb-true _ _ kind) (open_pointer (length file) item.from item.to 8)) (λ _ e. let z : ◌≡◌ {A = ℕ} 0 1 = cc in absurd (omega arith))
  where
    by_pointer : item.kind ≡ 118 → (p : Result (Unit {0}) Refusal) → at_pointer p item ≡ Ok (record { start = from; end = to }) → Placed 118 item from to
    by_pointer kind (Ok _) e = let s = same_pointer e in record { kinded = kind; starts = s.0; ends = s.1 }
    by_pointer kind (Err why) e = let z : ◌≡◌ {A = ℕ} 0 1 = cc in absurd (omega arith)

nested_pointer : (file : List ℕ) (item : Item) {from to : ℕ} → nested_of file item ≡ Ok (record { start = from; end = to }) → Placed 72 item from to
unfolding nested_of at_nested
nested_pointer file item {from} {to} =
    let P : Result Pointer Refusal → Type 0 = λ l. l ≡ Ok (record { start = from; end = to }) → Placed 72 item from to in
    pick_with P _ _ _ (λ kind. by_table (eqb-true _ _ kind) (open_table file item.from item.to)) (λ _ e. let z : ◌≡◌ {A = ℕ} 0 1 = cc in absurd (omega arith))
  where
    by_table : item.kind ≡ 72 → (o : Result Table Refusal) → at_nested o item ≡ Ok (record { start = from; end = to }) → Placed 72 item from to
    by_table kind (Ok t) e = let s = same_pointer e in record { kinded = kind; starts = s.0; ends = s.1 }
    by_table kind (Err why) e = let z : ◌≡◌ {A = ℕ} 0 1 = cc in absurd (omega arith)

-- a pointer that a lookup answers is that of the item it sought
pub record Answers (manner : Manner) (file : List ℕ) (start end : ℕ) (key : List ℕ) (kind from to : ℕ) : Type 0 where
  pub item : Item
  pub seeks : Seeks manner file start end key item
  pub placed : Placed kind item from to

module _ (manner : Manner) (file : List ℕ) (start end : ℕ) (key : List ℕ) {from to : ℕ} where
  at_item_lem : (of : Item → Result Pointer Refusal) (kind : ℕ) → ((item : Item) → of item ≡ Ok (record { start = from; end = to }) → Placed kind item from to)
      → (s : Result Item Refusal) → lookup_item manner file start end key ≡ s → at_item s of ≡ Ok (record { start = from; end = to }) → Answers manner file start end key kind from to
  unfolding at_item
  at_item_lem of kind placed (Ok item) sought e =
      record { item = item; seeks = sought_item manner file start end key sought; placed = placed item e }
  at_item_lem of kind placed (Err why) sought e = let z : ◌≡◌ {A = ℕ} 0 1 = cc in absurd (omega arith)

  pub value_answers : lookup_value manner file start end key ≡ Ok (record { start = from; end = to }) → Answers manner file start end key 118 from to
  unfolding lookup_value
  value_answers e = at_item_lem (λ item. value_of file item) 118 (λ item h. value_pointer file item h) _ refl e

  pub table_answers : lookup_table manner file start end key ≡ Ok (record { start = from; end = to }) → Answers manner file start end key 72 from to
  unfolding lookup_table
  table_answers e = at_item_lem (λ item. nested_of file item) 72 (λ item h. nested_pointer file item h) _ refl e
