-- What the views mean, in plain statements: a value's or a fragment's view is the bytes of its pointer, at its offset; a nested view opens; a refusal's view is empty.
use Rattle.std.specs.Prelude.{Result, Ok, Err}
use Rattle.layout.specs.declared.pointer.Pointer.{Pointer}
use Prim.Native.Nat.{ℕ, ◌-◌, ◌≤◌}
use mathlib.Core.Path.{◌≡◌, refl, sym, ap, subst, ◌∙◌}
use mathlib.Core.List.{List, []}
use native.Mathlib.Omega.{arith}
use lib.ListN.{length, take, drop}
use denote.Ref.{Bor}
use Rattle.words.specs.Choice.{pick}
use Rattle.read_find.specs.declared.manner.Manner as code
use Rattle.read_find.specs.Find.{Manner, manner_of}
use Rattle.words.proofs.ChoiceLaws.{pick_with}
use Rattle.layout.specs.declared.refusal.Refusal.{Refusal}
use Rattle.layout.specs.declared.refusal.Refusal.TheVariants.{TableTooShort}
use Rattle.layout.specs.declared.table.Table.{Table}
use Rattle.layout.specs.declared.item.Item.{Item}
use Rattle.layout.specs.Table.{open_table, table_in}
use Rattle.layout.specs.Pointer.{open_pointer}
use Rattle.read_listing.specs.declared.listing.Valued.{Valued}
use Rattle.read_listing.specs.declared.listing.Cursor.{Cursor}
use Rattle.read.proofs.SoughtLaws.{same_pointer}
use Rattle.read.specs.Lookup.{lookup_item, lookup_table, at_item, nested_of, at_nested}
use Rattle.read_listing.proofs.Plain.{value_in_file, listed_value_in_file, child_in_file}
use Rattle.view.specs.declared.table.TableView.{TableView}
use Rattle.view.specs.declared.table.OpenedView.{OpenedView}
use Rattle.view.specs.declared.table.ValueView.{ValueView}
use Rattle.view.specs.declared.table.NestedView.{NestedView}
use Rattle.view.specs.declared.table.ListedView.{ListedView}
use Rattle.view.specs.declared.table.ChildView.{ChildView}
use Rattle.view_part.specs.Part.{Viewed, Stretch, pointer_start, pointer_end, listed_start, listed_end, child_start, child_end, opened_pointer, opened_file, nested_file}
use Rattle.view.specs.Views.{OpenedOf, ValueOf, NestedOf, ListedOf, ChildOf}
use Rattle.view_part.proofs.PartLaws.{stretch_same, stretch_out, viewed_same}

-- the view `table` of the lent file: the whole file, the pointer from start to end, and the manner
pub record Whole (file : Bor (List ℕ)) (table : TableView) (start end : ℕ) (manner : code.Manner) : Type 0 where
  pub seen : Viewed file table.file 0 file.now
  pub starts : table.start ≡ start
  pub ends : table.end ≡ end
  pub manners : table.manner ≡ manner

-- the view of a refusal: no bytes, and the pointer from 0 to 0
pub record Empty (file : Bor (List ℕ)) (table : TableView) : Type 0 where
  pub seen : Viewed file table.file 0 []
  pub starts : table.start ≡ 0
  pub ends : table.end ≡ 0

-- no bytes of a file are its first none
none : (file r : Bor (List ℕ)) (start end : ℕ) → start ≡ 0 → end ≡ 0 → Stretch file start end r → Viewed file r 0 []
none file r start end s e viewed = stretch_out file r 0 0 (omega arith) (omega arith) (stretch_same file r 0 0 start end s e viewed)

-- the bytes of a pointer that lies in the file
seen : (file r : Bor (List ℕ)) (start end from to : ℕ) → start ≡ from → end ≡ to → (from ≤ to) × (to ≤ length file.now) → Stretch file start end r
    → Viewed file r from (take (to - from) (drop from file.now))
seen file r start end from to s e within viewed = stretch_out file r from to within.0 within.1 (stretch_same file r from to start end s e viewed)

-- as a table it opens with 4
pub empty_refused : (file : Bor (List ℕ)) (table : TableView) → Empty file table → open_table table.file.now table.start table.end ≡ Err TableTooShort
unfolding open_table open_pointer table_in pick
empty_refused file table empty = rw (empty.seen.holds, empty.starts, empty.ends)

module _ (t : TableView) (key : List ℕ) (r : ValueView) (said : ValueOf t key r) where
  pub value_seen : {from to : ℕ} → r.answer ≡ Ok (record { start = from; end = to }) → Viewed t.file r.bytes from (take (to - from) (drop from t.file.now))
  value_seen {from} {to} e =
      seen _ _ _ _ from to (ap pointer_start e) (ap pointer_end e) (value_in_file (manner_of t.manner) t.file.now t.start t.end key (sym said.answered ∙ e)) said.viewed

  pub value-refused : {why : Refusal} → r.answer ≡ Err why → Viewed t.file r.bytes 0 []
  value-refused e = none _ _ _ _ (ap pointer_start e) (ap pointer_end e) said.viewed

module _ (t : TableView) (at : ℕ) (r : ListedView) (said : ListedOf t at r) where
  pub listed_seen : {index from to : ℕ} {next : Cursor} → r.answer ≡ Valued.Value index from to next
      → Viewed t.file r.bytes from (take (to - from) (drop from t.file.now))
  listed_seen {from = from} {to = to} e =
      seen _ _ _ _ from to (ap listed_start e) (ap listed_end e) (listed_value_in_file t.file.now t.start t.end at (sym said.answered ∙ e)) said.viewed

  pub listed_unopened : {why : Refusal} {index : ℕ} {next : Cursor} → r.answer ≡ Valued.Unopened why index next → Viewed t.file r.bytes 0 []
  listed_unopened e = none _ _ _ _ (ap listed_start e) (ap listed_end e) said.viewed

  pub listed-refused : {why : Refusal} → r.answer ≡ Valued.Refused why → Viewed t.file r.bytes 0 []
  listed-refused e = none _ _ _ _ (ap listed_start e) (ap listed_end e) said.viewed

module _ (t : TableView) (key : List ℕ) (at : ℕ) (r : ChildView) (said : ChildOf t key at r) where
  pub child_seen : {index kind from to : ℕ} {next : Cursor} → r.answer ≡ Ok (record { index = index; kind = kind; start = from; end = to; next = next })
      → Viewed t.file r.fragment from (take (to - from) (drop from t.file.now))
  child_seen {from = from} {to = to} e =
      seen _ _ _ _ from to (ap child_start e) (ap child_end e) (child_in_file _ t.file.now t.start t.end key at (sym said.answered ∙ e)) said.viewed

  pub child_refused : {why : Refusal} → r.answer ≡ Err why → Viewed t.file r.fragment 0 []
  child_refused e = none _ _ _ _ (ap child_start e) (ap child_end e) said.viewed

module _ (file : Bor (List ℕ)) (start end : ℕ) (manner : code.Manner) (r : OpenedView) (said : OpenedOf file start end manner r) where
  pub opened_whole : {table : Table} → r.answer ≡ Ok table → Whole file r.table start end manner
  opened_whole e = record {
    seen = viewed_same _ _ _ _ _ _ refl (ap (λ o. opened_file o file.now) e) said.viewed;
    starts = said.starts ∙ ap (λ o. opened_pointer o start) e;
    ends = said.ends ∙ ap (λ o. opened_pointer o end) e;
    manners = said.manners;
  }

  pub opened_empty : {why : Refusal} → r.answer ≡ Err why → Empty file r.table
  opened_empty e = record {
    seen = viewed_same _ _ _ _ _ _ refl (ap (λ o. opened_file o file.now) e) said.viewed;
    starts = said.starts ∙ ap (λ o. opened_pointer o start) e;
    ends = said.ends ∙ ap (λ o. opened_pointer o end) e;
  }

-- a nested table that is looked up opens
nested_open : (file : List ℕ) (item : Item) {from to : ℕ} → nested_of file item ≡ Ok (record { start = from; end = to }) → (table : Table) × (open_table file from to ≡ Ok table)
unfolding nested_of at_nested
nested_open file item {from} {to} =
    let P : Result Pointer Refusal → Type 0 = λ l. l ≡ Ok (record { start = from; end = to }) → (table : Table) × (open_table file from to ≡ Ok table) in
    pick_with P _ _ _ (λ _. by_opened (open_table file item.from item.to) refl) (λ _ e. let z : ◌≡◌ {A = ℕ} 0 1 = cc in absurd (omega arith))
  where
    by_opened : (o : Result Table Refusal) → open_table file item.from item.to ≡ o → at_nested o item ≡ Ok (record { start = from; end = to }) → (table : Table) × (open_table file from to ≡ Ok table)
    by_opened (Ok table) opens e =
        let same = same_pointer e in
        let f : item.from ≡ from = same.0 in
        let g : item.to ≡ to = same.1 in
        (table, subst (λ (n : ℕ). open_table file n to ≡ Ok table) f (subst (λ (n : ℕ). open_table file item.from n ≡ Ok table) g opens))
    by_opened (Err why) opens e = let z : ◌≡◌ {A = ℕ} 0 1 = cc in absurd (omega arith)

pub table_opens : (manner : Manner) (file : List ℕ) (start end : ℕ) (key : List ℕ) {from to : ℕ} → lookup_table manner file start end key ≡ Ok (record { start = from; end = to })
    → (table : Table) × (open_table file from to ≡ Ok table)
unfolding lookup_table at_item
table_opens manner file start end key {from} {to} = by_item (lookup_item manner file start end key)
  where
    by_item : (s : Result Item Refusal) → at_item s (λ item. nested_of file item) ≡ Ok (record { start = from; end = to }) → (table : Table) × (open_table file from to ≡ Ok table)
    by_item (Ok item) e = nested_open file item e
    by_item (Err why) e = let z : ◌≡◌ {A = ℕ} 0 1 = cc in absurd (omega arith)

module _ (t : TableView) (key : List ℕ) (r : NestedView) (said : NestedOf t key r) where
  pub nested_whole : {from to : ℕ} → r.answer ≡ Ok (record { start = from; end = to }) → Whole t.file r.table from to t.manner
  nested_whole e = record {
    seen = viewed_same _ _ _ _ _ _ refl (ap (λ l. nested_file l t.file.now) e) said.viewed;
    starts = said.starts ∙ ap pointer_start e;
    ends = said.ends ∙ ap pointer_end e;
    manners = said.manners;
  }

  -- and the table at the view opens
  pub nested_opens : {from to : ℕ} → r.answer ≡ Ok (record { start = from; end = to }) → (table : Table) × (open_table r.table.file.now r.table.start r.table.end ≡ Ok table)
  nested_opens {from} {to} e =
      let whole = nested_whole e in
      let opens = table_opens (manner_of t.manner) t.file.now t.start t.end key (sym said.answered ∙ e) in
      (opens.0, rw (whole.seen.holds, whole.starts, whole.ends) opens.1)

  pub nested_empty : {why : Refusal} → r.answer ≡ Err why → Empty t.file r.table
  nested_empty e = record {
    seen = viewed_same _ _ _ _ _ _ refl (ap (λ l. nested_file l t.file.now) e) said.viewed;
    starts = said.starts ∙ ap pointer_start e;
    ends = said.ends ∙ ap pointer_end e;
  }
