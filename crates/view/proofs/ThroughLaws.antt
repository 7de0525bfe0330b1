-- Going through views is asking at the pointer: a view of the whole file answers as the file does, and the empty view refuses.
use Rattle.std.specs.Prelude.{Result, Ok, Err}
use Rattle.layout.specs.declared.table.Table.{Table}
use Rattle.layout.specs.declared.pointer.Pointer.{Pointer}
use Prim.Native.Nat.{ℕ, ◌+◌}
use mathlib.Core.Path.{◌≡◌, refl, sym, ap, subst, ◌∙◌}
use mathlib.Core.List.{List, []}
use native.Mathlib.Omega.{arith}
use denote.Ref.{Bor}
use Rattle.read_find.specs.declared.manner.Manner as code
use Rattle.read_find.specs.Find.{Manner, manner_of}
use Rattle.layout.specs.declared.refusal.Refusal.{Refusal}
use Rattle.layout.specs.Table.{open_table}
use Rattle.read.specs.Lookup.{lookup_item, lookup_value, lookup_table, at_item, at_opened}
use Rattle.view.specs.declared.table.TableView.{TableView}
use Rattle.view.specs.declared.table.OpenedView.{OpenedView}
use Rattle.view.specs.declared.table.ValueView.{ValueView}
use Rattle.view.specs.declared.table.NestedView.{NestedView}
use Rattle.view_part.specs.Part.{Viewed, ValueIn, stretch_at, stretch_of, pointer_start, pointer_end}
use Rattle.view.specs.Views.{OpenedOf, ValueOf, NestedOf}
use Rattle.view.specs.Through.{at_looked, nested_value}
use Rattle.view_part.proofs.PartLaws.{stretch_in}
use Rattle.view.proofs.Plain.{Whole, Empty, empty_refused, opened_whole, opened_empty, nested_whole, nested_empty, value-refused}

-- where a table does not open, a lookup is refused alike
pub value_unopened : (manner : Manner) (file : List ℕ) (start end : ℕ) (key : List ℕ) {why : Refusal} → open_table file start end ≡ Err why → lookup_value manner file start end key ≡ Err why
unfolding lookup_value lookup_item at_item at_opened
value_unopened manner file start end key e = rw e

table_unopened : (manner : Manner) (file : List ℕ) (start end : ℕ) (key : List ℕ) {why : Refusal} → open_table file start end ≡ Err why → lookup_table manner file start end key ≡ Err why
unfolding lookup_table lookup_item at_item at_opened
table_unopened manner file start end key e = rw e

nested_unopened : (manner : Manner) (file : List ℕ) (start end : ℕ) (name key : List ℕ) {why : Refusal} → open_table file start end ≡ Err why → nested_value manner file start end name key ≡ Err why
unfolding nested_value at_looked
nested_unopened manner file start end name key e = rw (table_unopened manner file start end name e)

-- a part of a part
viewed_on : (file table r : Bor (List ℕ)) (at : ℕ) (all bytes : List ℕ) → Viewed file table 0 all → Viewed table r at bytes → Viewed file r at bytes
viewed_on file table r at all bytes p q = record {
  block = q.block ∙ p.block;
  place = q.place ∙ ap (λ (n : ℕ). n + at) (p.place ∙ zero_more file.ref_ptr.1);
  holds = q.holds;
}
  where
    zero_more : (n : ℕ) → n + 0 ≡ n
    zero_more n = omega arith

-- no bytes are what a refusal shows
nothing_seen : (file r : Bor (List ℕ)) {looked : Result Pointer Refusal} {why : Refusal} → looked ≡ Err why → Viewed file r 0 [] → ValueIn file looked r
nothing_seen file r {why = why} e viewed =
    subst (λ (l : Result Pointer Refusal). ValueIn file l r) (sym e) (stretch_in file r 0 0 (omega arith) (omega arith) viewed)

-- `ValueIn` with the file's bytes apart from the file
abbrev ValueAt : Bor (List ℕ) → List ℕ → Result Pointer Refusal → Bor (List ℕ) → Type 0
ValueAt file bytes l r = Viewed file r (stretch_at bytes (pointer_start l) (pointer_end l)) (stretch_of bytes (pointer_start l) (pointer_end l))

module _ (file : Bor (List ℕ)) (table : TableView) (start end : ℕ) (manner : code.Manner) (whole : Whole file table start end manner) where
  value_whole : (key : List ℕ) (v : ValueView) → ValueOf table key v → ValueIn file (lookup_value (manner_of manner) file.now start end key) v.bytes
  value_whole key v said =
      let same : lookup_value (manner_of table.manner) table.file.now table.start table.end key ≡ lookup_value (manner_of manner) file.now start end key = rw (whole.seen.holds, whole.starts, whole.ends, whole.manners) refl in
      let seen : ValueIn table.file (lookup_value (manner_of manner) file.now start end key) v.bytes =
      subst (λ (l : Result Pointer Refusal). ValueIn table.file l v.bytes) (said.answered ∙ same) said.viewed in
      let onto : ValueAt table.file file.now (lookup_value (manner_of manner) file.now start end key) v.bytes =
      subst (λ (xs : List ℕ). ValueAt table.file xs (lookup_value (manner_of manner) file.now start end key) v.bytes) whole.seen.holds seen in
      viewed_on file table.file v.bytes _ _ _ whole.seen onto

module _ (file : Bor (List ℕ)) (table : TableView) (empty : Empty file table) where
  value_none : (key : List ℕ) (v : ValueView) → ValueOf table key v → Viewed file v.bytes 0 []
  value_none key v said =
      viewed_on file table.file v.bytes 0 [] [] empty.seen
      (value-refused table key v said (said.answered ∙ value_unopened (manner_of table.manner) _ _ _ key (empty_refused file table empty)))

  nested-none : (key : List ℕ) (n : NestedView) → NestedOf table key n → Empty file n.table
  nested-none key n said =
      let none = nested_empty table key n said (said.answered ∙ table_unopened (manner_of table.manner) _ _ _ key (empty_refused file table empty)) in
      record { seen = viewed_on file table.file n.table.file 0 [] [] empty.seen none.seen; starts = none.starts; ends = none.ends }

-- a view that was opened, by what opening answered
pub value_through : (file : Bor (List ℕ)) (start end : ℕ) (manner : code.Manner) (key : List ℕ) (o : OpenedView) (v : ValueView) → OpenedOf file start end manner o → ValueOf o.table key v
    → ValueIn file (lookup_value (manner_of manner) file.now start end key) v.bytes
value_through file start end manner key o v opened said = by_answer o.answer refl
  where
    by_answer : (answer : Result Table Refusal) → o.answer ≡ answer → ValueIn file (lookup_value (manner_of manner) file.now start end key) v.bytes
    by_answer (Ok table) e = value_whole file o.table start end manner (opened_whole file start end manner o opened e) key v said
    by_answer (Err why) e =
        nothing_seen file v.bytes (value_unopened (manner_of manner) file.now start end key (sym opened.answered ∙ e)) (value_none file o.table (opened_empty file start end manner o opened e) key v said)

-- a nested view of a view of the whole file, by what the lookup answered
nested_through_whole : (file : Bor (List ℕ)) (table : TableView) (start end : ℕ) (manner : code.Manner) (name key : List ℕ) (n : NestedView) (v : ValueView) → Whole file table start end manner
    → NestedOf table name n → ValueOf n.table key v → ValueIn file (nested_value (manner_of manner) file.now start end name key) v.bytes
unfolding nested_value at_looked
nested_through_whole file table start end manner name key n v whole nested said = by_answer n.answer refl
  where
    same : n.answer ≡ lookup_table (manner_of manner) file.now start end name
    same = nested.answered ∙ rw (whole.seen.holds, whole.starts, whole.ends, whole.manners) refl

    by_answer : (answer : Result Pointer Refusal) → n.answer ≡ answer → ValueIn file (at_looked (lookup_table (manner_of manner) file.now start end name) (λ from to. lookup_value (manner_of manner) file.now from to key)) v.bytes
    by_answer (Ok p) e =
        let on = nested_whole table name n nested e in
        let there : Whole file n.table p.start p.end manner = record { seen = viewed_on file table.file n.table.file 0 file.now file.now whole.seen (subst (λ (xs : List ℕ). Viewed table.file n.table.file 0 xs) whole.seen.holds on.seen); starts = on.starts; ends = on.ends; manners = on.manners ∙ whole.manners } in
        subst (λ (l : Result Pointer Refusal). ValueIn file (at_looked l (λ from to. lookup_value (manner_of manner) file.now from to key)) v.bytes) (sym e ∙ same) (value_whole file n.table p.start p.end manner there key v said)
    by_answer (Err why) e =
        let none = nested_empty table name n nested e in
        let there : Empty file n.table = record { seen = viewed_on file table.file n.table.file 0 file.now [] whole.seen none.seen; starts = none.starts; ends = none.ends } in
        subst (λ (l : Result Pointer Refusal). ValueIn file (at_looked l (λ from to. lookup_value (manner_of manner) file.now from to key)) v.bytes) (sym e ∙ same)
        (nothing_seen file v.bytes {looked = Err why} {why = why} refl (value_none file n.table there key v said))

pub nested_through : (file : Bor (List ℕ)) (start end : ℕ) (manner : code.Manner) (name key : List ℕ) (o : OpenedView) (n : NestedView) (v : ValueView) → OpenedOf file start end manner o
    → NestedOf o.table name n → ValueOf n.table key v → ValueIn file (nested_value (manner_of manner) file.now start end name key) v.bytes
nested_through file start end manner name key o n v opened nested said = by_answer o.answer refl
  where
    by_answer : (answer : Result Table Refusal) → o.answer ≡ answer → ValueIn file (nested_value (manner_of manner) file.now start end name key) v.bytes
    by_answer (Ok table) e = nested_through_whole file o.table start end manner name key n v (opened_whole file start end manner o opened e) nested said
    by_answer (Err why) e =
        nothing_seen file v.bytes (nested_unopened (manner_of manner) file.now start end name key (sym opened.answered ∙ e))
        (value_none file n.table (nested-none file o.table (opened_empty file start end manner o opened e) name n nested) key v said)
