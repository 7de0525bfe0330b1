-- The order of refusals in the document's words: for each number, what was passed before it and what it is given for.
use Rattle.std.specs.Prelude.{Result, Ok, Err, Some, None}
use Prim.Native.Nat.{ℕ, suc, ◌+◌, ◌-◌, ◌%◌, ◌≤◌, ◌<◌}
use mathlib.Core.Path.{◌≡◌, refl, sym, ap, ◌∙◌}
use mathlib.Core.List.{List}
use mathlib.Core.Bool.{true, false}
use native.Mathlib.Omega.{arith}
use lib.ListN.{length}
use borrow.Author.Tests.{lt-ltb, le-ltb, le-leb, lt-leb, eq-eqb, ne_eqb}
use Rattle.words.specs.Choice.{pick}
use Rattle.text.specs.Utf8.{first_bad, is_utf8}
use Rattle.layout.specs.declared.refusal.Refusal.{Refusal}
use Rattle.layout.specs.declared.refusal.Refusal.TheVariants.{PointerOutside, FragmentNotUtf8, ParentOutside, ParentsEndless, OtherKind, PastTheLast}
use Rattle.layout.specs.declared.table.Table.{Table}
use Rattle.layout.specs.declared.item.Item.{Item}
use Rattle.layout.specs.Refusal.{number}
use Rattle.layout.specs.Kind.{kind_known}
use Rattle.layout.specs.Pointer.{open_pointer}
use Rattle.layout.specs.Table.{open_table}
use Rattle.layout.specs.Item.{item_at, no_item}
use Rattle.layout.specs.Answer.{pointed_number, opened_number}
use Rattle.layout.proofs.AnswerLaws.{pointer_inside_is}
use Rattle.read_chain.specs.Chain.{fragment_of, parent_of, after_pointer, climb_from, Joined, append, join_step, key_of}
use Rattle.read_find.specs.Find.{Manner, find_item}
use Rattle.read.specs.Lookup.{at_found, lookup_in, at_opened, lookup_item, at_pointer, at_nested, value_of, nested_of, at_item, lookup_value, lookup_table}
use Rattle.read_listing.specs.Listing.{key_in, key_opened, key_at, listed, next_value, value_opened, value_from, value_in_opened, value_at}
use Rattle.read_listing.specs.Children.{child_at, child_count, open_list, at_fragment, child_named, child_of, child_from, child_of_sought, child_in_opened, next_child}
use Rattle.read.specs.Answer.{looked_number}
use Rattle.read_listing.specs.Answer.{listed_number, valued_number, valued_item, childed_number, childed_at}
use Rattle.read_chain.proofs.ChainLaws.{climb_on}
use Rattle.read_listing.proofs.ChildLaws.{list-refused, list_whole, list_uneven}

-- ---- the number of an answer is that of the pointer or the table behind it

pub pointed_looked : (p : Result (Unit {0}) Refusal) (item : Item) → looked_number (at_pointer p item) ≡ pointed_number p
unfolding looked_number at_pointer pointed_number
pointed_looked (Ok _) item = refl
pointed_looked (Err why) item = refl

pub nested_looked : (o : Result Table Refusal) (item : Item) → looked_number (at_nested o item) ≡ opened_number o
unfolding looked_number at_nested opened_number
nested_looked (Ok t) item = refl
nested_looked (Err why) item = refl

pointed_valued : (p : Result (Unit {0}) Refusal) (index : ℕ) (item : Item) → valued_number (value_opened p index item) ≡ pointed_number p
unfolding valued_number value_opened pointed_number
pointed_valued (Ok _) index item = refl
pointed_valued (Err why) index item = refl

item_valued : (p : Result (Unit {0}) Refusal) (index : ℕ) (item : Item) → valued_item (value_opened p index item) ≡ (index, index + 1)
unfolding valued_item value_opened
item_valued (Ok _) index item = refl
item_valued (Err why) index item = refl

-- a fragment's pointer, whose alignment is 1: 2, or it opens
fragment_outside : (file : List ℕ) (start size : ℕ) → length file < start + size → open_pointer (length file) start (start + size) 1 ≡ Err PointerOutside
unfolding open_pointer pick
fragment_outside file start size past =
    let ordered : start ≤ start + size = omega arith in
    let even : start % 1 ≡ 0 = omega arith in
    simp (le-ltb _ _ ordered, eq-eqb _ _ even, lt-ltb _ _ past)

fragment_inside : (file : List ℕ) (start size : ℕ) → start + size ≤ length file → open_pointer (length file) start (start + size) 1 ≡ Ok tt
fragment_inside file start size fits = pointer_inside_is (length file) start (start + size) 1 (omega arith) (omega arith) fits

-- ---- lookup: opening, 8, 12, 13, then the value pointer's 2 or 3, or what opening the nested table refuses

module _ (manner : Manner) (file : List ℕ) (start end : ℕ) (key : List ℕ) where
  pub value-opening : {why : Refusal} → open_table file start end ≡ Err why → looked_number (lookup_value manner file start end key) ≡ number why
  unfolding lookup_value lookup_item at_opened at_item looked_number
  value-opening shut = rw shut

  pub table-opening : {why : Refusal} → open_table file start end ≡ Err why → looked_number (lookup_table manner file start end key) ≡ number why
  unfolding lookup_table lookup_item at_opened at_item looked_number
  table-opening shut = rw shut

  module _ {t : Table} (opens : open_table file start end ≡ Ok t) where
    pub value_8 : is_utf8 key ≡ false → looked_number (lookup_value manner file start end key) ≡ 8
    unfolding lookup_value lookup_item lookup_in at_opened at_item looked_number pick
    value_8 bad = rw (opens, bad)

    pub table_8 : is_utf8 key ≡ false → looked_number (lookup_table manner file start end key) ≡ 8
    unfolding lookup_table lookup_item lookup_in at_opened at_item looked_number pick
    table_8 bad = rw (opens, bad)

    module _ (text : is_utf8 key ≡ true) where
      pub value_12 : find_item manner file t key ≡ None → looked_number (lookup_value manner file start end key) ≡ 12
      unfolding lookup_value lookup_item lookup_in at_opened at_item at_found looked_number pick
      value_12 none = rw (opens, text, none)

      pub table_12 : find_item manner file t key ≡ None → looked_number (lookup_table manner file start end key) ≡ 12
      unfolding lookup_table lookup_item lookup_in at_opened at_item at_found looked_number pick
      table_12 none = rw (opens, text, none)

      module _ {i : ℕ} (found : find_item manner file t key ≡ Some i) where
        pub value_found : lookup_value manner file start end key ≡ value_of file (item_at file t i)
        unfolding lookup_value lookup_item lookup_in at_opened at_item at_found pick
        value_found = rw (opens, text, found)

        pub table_found : lookup_table manner file start end key ≡ nested_of file (item_at file t i)
        unfolding lookup_table lookup_item lookup_in at_opened at_item at_found pick
        table_found = rw (opens, text, found)

        pub value_13 : ((item_at file t i).kind ≡ 118 → ⊥) → looked_number (lookup_value manner file start end key) ≡ 13
        unfolding value_of looked_number pick
        value_13 other = ap looked_number value_found ∙ rw (ne_eqb _ _ other)

        pub table_13 : ((item_at file t i).kind ≡ 72 → ⊥) → looked_number (lookup_table manner file start end key) ≡ 13
        unfolding nested_of looked_number pick
        table_13 other = ap looked_number table_found ∙ rw (ne_eqb _ _ other)

        -- 2 or 3 of the value pointer, or the value's pointer
        pub value_pointer : (item_at file t i).kind ≡ 118
            → looked_number (lookup_value manner file start end key) ≡ pointed_number (open_pointer (length file) (item_at file t i).from (item_at file t i).to 8)
        unfolding value_of looked_number pick
        value_pointer kind = ap looked_number value_found ∙ rw (eq-eqb _ _ kind) (pointed_looked _ (item_at file t i))

        -- what opening the nested table refuses, or its pointer
        pub table-nested : (item_at file t i).kind ≡ 72
            → looked_number (lookup_table manner file start end key) ≡ opened_number (open_table file (item_at file t i).from (item_at file t i).to)
        unfolding nested_of pick
        table-nested kind = ap looked_number table_found ∙ rw (eq-eqb _ _ kind) (nested_looked _ (item_at file t i))

-- ---- an item's key: from the item towards the root, for each item 2, 9, then 10 for its parent; 11 if that never ends

module _ (file : List ℕ) (t : Table) (steps i : ℕ) where
  pub key_11 : key_of file t 0 i ≡ Joined.broken ParentsEndless
  unfolding key_of
  key_11 = refl

  pub key_2 : length file < (item_at file t i).key + (item_at file t i).size → key_of file t (suc steps) i ≡ Joined.broken PointerOutside
  unfolding key_of climb_from after_pointer join_step
  key_2 past = rw (fragment_outside file (item_at file t i).key (item_at file t i).size past)

  module _ (inside : (item_at file t i).key + (item_at file t i).size ≤ length file) where
    pub key_9 : is_utf8 (fragment_of file (item_at file t i)) ≡ false → key_of file t (suc steps) i ≡ Joined.broken (FragmentNotUtf8 (first_bad (fragment_of file (item_at file t i))))
    unfolding key_of climb_from after_pointer join_step pick
    key_9 bad = rw (fragment_inside file (item_at file t i).key (item_at file t i).size inside, bad)

    module _ (text : is_utf8 (fragment_of file (item_at file t i)) ≡ true) where
      pub key_step : climb_from file t.count (item_at file t i) ≡ parent_of t.count (item_at file t i).parent
      key_step = climb_on file t.count (item_at file t i) (fragment_inside file (item_at file t i).key (item_at file t i).size inside) text

      pub key_root : (item_at file t i).parent ≡ no_item → key_of file t (suc steps) i ≡ Joined.joined (fragment_of file (item_at file t i))
      unfolding key_of join_step parent_of pick
      key_root e = rw (key_step, eq-eqb _ _ e)

      module _ (child : (item_at file t i).parent ≡ no_item → ⊥) where
        pub key_10 : t.count ≤ (item_at file t i).parent → key_of file t (suc steps) i ≡ Joined.broken ParentOutside
        unfolding key_of join_step parent_of pick
        key_10 past = rw (key_step, ne_eqb _ _ child, le-ltb _ _ past)

        pub key_up : (item_at file t i).parent < t.count
            → key_of file t (suc steps) i ≡ append (key_of file t steps (item_at file t i).parent) (fragment_of file (item_at file t i))
        unfolding key_of join_step parent_of pick
        key_up below = rw (key_step, ne_eqb _ _ child, lt-ltb _ _ below)

-- ---- key listing: opening, 15, what the key is refused with, 14

module _ (file : List ℕ) (start end at room : ℕ) where
  pub list-opening : {why : Refusal} → open_table file start end ≡ Err why → listed_number (listed (key_at file start end at) room at) ≡ number why
  unfolding key_at key_opened listed listed_number
  list-opening shut = rw shut

  module _ {t : Table} (opens : open_table file start end ≡ Ok t) where
    pub list_15 : t.count ≤ at → listed_number (listed (key_at file start end at) room at) ≡ 15
    unfolding key_at key_opened key_in listed listed_number pick
    list_15 past = rw (opens, le-leb _ _ past)

    module _ (below : at < t.count) where
      pub list_key : key_at file start end at ≡ key_of file t t.count at
      unfolding key_at key_opened key_in pick
      list_key = rw (opens, lt-leb _ _ below)

      pub list-broken : {why : Refusal} → key_of file t t.count at ≡ Joined.broken why → listed_number (listed (key_at file start end at) room at) ≡ number why
      unfolding listed listed_number
      list-broken e = rw (list_key ∙ e)

      -- the numbers of a key that does not read: 2, 9, 10, 11
      pub list_2 : key_of file t t.count at ≡ Joined.broken PointerOutside → listed_number (listed (key_at file start end at) room at) ≡ 2
      list_2 e = list-broken e

      pub list_9 : {bad : ℕ} → key_of file t t.count at ≡ Joined.broken (FragmentNotUtf8 bad) → listed_number (listed (key_at file start end at) room at) ≡ 9
      list_9 e = list-broken e

      pub list_10 : key_of file t t.count at ≡ Joined.broken ParentOutside → listed_number (listed (key_at file start end at) room at) ≡ 10
      list_10 e = list-broken e

      pub list_11 : key_of file t t.count at ≡ Joined.broken ParentsEndless → listed_number (listed (key_at file start end at) room at) ≡ 11
      list_11 e = list-broken e

      module _ {k : List ℕ} (key : key_of file t t.count at ≡ Joined.joined k) where
        pub list_14 : room < length k → listed_number (listed (key_at file start end at) room at) ≡ 14
        unfolding listed listed_number pick
        list_14 short = rw (list_key ∙ key, lt-ltb _ _ short)

        -- the key's full length, and the next position
        pub list_0 : length k ≤ room → listed (key_at file start end at) room at ≡ Ok (record { size = length k; next = record { at = at + 1 } })
        unfolding listed pick
        list_0 fits = rw (list_key ∙ key, le-ltb _ _ fits)

-- ---- value listing: opening, 15, then 2 or 3 of the value pointer, with the item's index and the next position

module _ (file : List ℕ) (start end at : ℕ) where
  pub values_opening : {why : Refusal} → open_table file start end ≡ Err why → valued_number (value_at file start end at) ≡ number why
  unfolding value_at value_in_opened valued_number
  values_opening shut = rw shut

  module _ {t : Table} (opens : open_table file start end ≡ Ok t) where
    pub values_15 : t.count ≤ next_value file t at → valued_number (value_at file start end at) ≡ 15
    unfolding value_at value_in_opened value_from valued_number pick
    values_15 past = rw (opens, le-leb _ _ past)

    module _ (below : next_value file t at < t.count) where
      values_item : value_at file start end at
          ≡ value_opened (open_pointer (length file) (item_at file t (next_value file t at)).from (item_at file t (next_value file t at)).to 8) (next_value file t at) (item_at file t (next_value file t at))
      unfolding value_at value_in_opened value_from pick
      values_item = rw (opens, lt-leb _ _ below)

      pub values_pointer : valued_number (value_at file start end at)
          ≡ pointed_number (open_pointer (length file) (item_at file t (next_value file t at)).from (item_at file t (next_value file t at)).to 8)
      values_pointer = ap valued_number values_item ∙ pointed_valued _ (next_value file t at) (item_at file t (next_value file t at))

      pub values_index : valued_item (value_at file start end at) ≡ (next_value file t at, next_value file t at + 1)
      values_index = ap valued_item values_item ∙ item_valued _ (next_value file t at) (item_at file t (next_value file t at))

-- ---- children of a container: opening, 8, 12; of the container 13, then 2 or 3 of its value pointer, then 13 for its length; 15; of the child 10, 13, then 2 or 9

module _ (manner : Manner) (file : List ℕ) (start end : ℕ) (key : List ℕ) (at : ℕ) where
  pub children_opening : {why : Refusal} → open_table file start end ≡ Err why → childed_number (next_child manner file start end key at) ≡ number why
  unfolding next_child child_in_opened childed_number
  children_opening shut = rw shut

  module _ {t : Table} (opens : open_table file start end ≡ Ok t) where
    pub children_8 : is_utf8 key ≡ false → (childed_number (next_child manner file start end key at) ≡ 8) × (childed_at (next_child manner file start end key at) ≡ first_bad key)
    unfolding next_child child_in_opened child_of_sought lookup_in childed_number childed_at pick
    children_8 bad = (rw (opens, bad), rw (opens, bad))

    module _ (text : is_utf8 key ≡ true) where
      pub children_12 : find_item manner file t key ≡ None → childed_number (next_child manner file start end key at) ≡ 12
      unfolding next_child child_in_opened child_of_sought lookup_in at_found childed_number pick
      children_12 none = rw (opens, text, none)

      module _ {i : ℕ} (found : find_item manner file t key ≡ Some i) where
        children_found : next_child manner file start end key at ≡ child_from (open_list file (item_at file t i)) file t (item_at file t i) at
        unfolding next_child child_in_opened child_of_sought lookup_in at_found pick
        children_found = rw (opens, text, found)

        children_shut : {why : Refusal} → Err why ≡ open_list file (item_at file t i) → childed_number (next_child manner file start end key at) ≡ number why
        unfolding child_from childed_number
        children_shut e = ap childed_number children_found ∙ rw (sym e)

        -- the item is no container
        pub children_other : ((item_at file t i).kind ≡ 76 → ⊥) → childed_number (next_child manner file start end key at) ≡ 13
        unfolding open_list pick
        children_other other = children_shut {why = OtherKind} (rw (ne_eqb _ _ other))

        module _ (kind : (item_at file t i).kind ≡ 76) where
          -- 2 or 3 of the value pointer
          pub children_pointer : {why : Refusal} → open_pointer (length file) (item_at file t i).from (item_at file t i).to 4 ≡ Err why
              → childed_number (next_child manner file start end key at) ≡ number why
          children_pointer e = children_shut (list-refused file (item_at file t i) kind refl refl e)

          module _ (inside : open_pointer (length file) (item_at file t i).from (item_at file t i).to 4 ≡ Ok tt) where
            pub children_uneven : (((item_at file t i).to - (item_at file t i).from) % 4 ≡ 0 → ⊥) → childed_number (next_child manner file start end key at) ≡ 13
            children_uneven uneven = children_shut (list_uneven file (item_at file t i) kind refl refl inside uneven)

            module _ (whole : ((item_at file t i).to - (item_at file t i).from) % 4 ≡ 0) where
              children_listed : next_child manner file start end key at ≡ child_from (Ok tt) file t (item_at file t i) at
              children_listed = children_found ∙ rw (sym (list_whole file (item_at file t i) kind refl refl inside whole))

              pub children_past : child_count (item_at file t i) ≤ at → next_child manner file start end key at ≡ Err PastTheLast
              unfolding child_from pick
              children_past past = children_listed ∙ rw (le-ltb _ _ past)

              pub children_15 : child_count (item_at file t i) ≤ at → childed_number (next_child manner file start end key at) ≡ 15
              unfolding childed_number
              children_15 past = ap childed_number (children_past past)

              module _ (listed : at < child_count (item_at file t i)) (child : ℕ) (is : child_at file (item_at file t i).from at ≡ child) where
                children_child : next_child manner file start end key at ≡ child_of file t child at
                unfolding child_from pick
                children_child = children_listed ∙ rw (lt-ltb _ _ listed, is)

                pub children_10 : t.count ≤ child → childed_number (next_child manner file start end key at) ≡ 10
                unfolding child_of childed_number pick
                children_10 past = ap childed_number children_child ∙ rw (le-leb _ _ past)

                module _ (below : child < t.count) where
                  -- the child's kind is not known
                  pub children_13 : kind_known (item_at file t child).kind ≡ false → childed_number (next_child manner file start end key at) ≡ 13
                  unfolding child_of childed_number pick
                  children_13 strange = ap childed_number children_child ∙ rw (lt-leb _ _ below, strange)

                  module _ (known : kind_known (item_at file t child).kind ≡ true) where
                    children_named : next_child manner file start end key at ≡ child_named file child (item_at file t child) at
                    unfolding child_of pick
                    children_named = children_child ∙ rw (lt-leb _ _ below, known)

                    pub children_2 : length file < (item_at file t child).key + (item_at file t child).size → childed_number (next_child manner file start end key at) ≡ 2
                    unfolding child_named at_fragment childed_number
                    children_2 past = ap childed_number children_named ∙ rw (fragment_outside file (item_at file t child).key (item_at file t child).size past)

                    module _ (fits : (item_at file t child).key + (item_at file t child).size ≤ length file) where
                      pub children_9 : is_utf8 (fragment_of file (item_at file t child)) ≡ false
                          → (childed_number (next_child manner file start end key at) ≡ 9) × (childed_at (next_child manner file start end key at) ≡ first_bad (fragment_of file (item_at file t child)))
                      unfolding child_named at_fragment childed_number childed_at pick
                      children_9 bad =
                          let opens = fragment_inside file (item_at file t child).key (item_at file t child).size fits in
                          (ap childed_number children_named ∙ rw (opens, bad), ap childed_at children_named ∙ rw (opens, bad))

                      -- the child, its kind, the place of its fragment, and the next position
                      pub children_0 : is_utf8 (fragment_of file (item_at file t child)) ≡ true
                          → next_child manner file start end key at
                          ≡ Ok (record {
                            index = child;
                            kind = (item_at file t child).kind;
                            start = (item_at file t child).key;
                            end = (item_at file t child).key + (item_at file t child).size;
                            next = record { at = at + 1 };
                          })
                      unfolding child_named at_fragment pick
                      children_0 good = children_named ∙ rw (fragment_inside file (item_at file t child).key (item_at file t child).size fits, good)
