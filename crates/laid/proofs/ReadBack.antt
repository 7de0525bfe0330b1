-- WHATEVER IS LAID, READS BACK: in any file of at most 16,777,216 bytes that holds a table of the model at a multiple of 4, for every rule
-- for a byte of the hash.
use Rattle.std.specs.Prelude.{Result, Ok}
use Rattle.layout.specs.declared.refusal.Refusal.{Refusal}
use Rattle.layout.specs.declared.pointer.Pointer.{Pointer}
use mathlib.Core.Path.{◌≡◌, sym, ◌∙◌}
use mathlib.Core.Bool.{true, false}
use mathlib.Core.List.{List}
use Prim.Native.Nat.{ℕ, zero, suc, ◌+◌, ◌-◌, ◌%◌, ◌≤◌}
use native.Mathlib.Omega.{arith}
use lib.ListN.{length}
use Rattle.text.specs.Utf8.{is_utf8}
use Rattle.layout.specs.declared.item.Item.{Item}
use Rattle.layout.specs.Limits.{longest_file}
use Rattle.layout.specs.Table.{open_table}
use Rattle.layout.specs.Item.{item_at}
use Rattle.layout.specs.Kind.{kind_byte}
use Rattle.read_chain.specs.Chain.{Joined}
use Rattle.read.specs.Lookup.{lookup_value, lookup_table}
use Rattle.read_listing.specs.Listing.{key_at}
use Rattle.read.specs.Answer.{looked_number, looked_bytes}
use Rattle.read_listing.proofs.AnswerLaws.{value_8, table_8, value_12, table_12, value_found, table_found, value_13, table_13, list_key}
use Rattle.model.specs.Table.{Content, State, Has, kind_of}
use Rattle.image.specs.Index.{laid_index}
use Rattle.image.specs.Image.{covers_of, table_bytes}
use Rattle.image.specs.WellFormed.{Writable}
use Rattle.image.specs.Laid.{Holds}
use Rattle.image.specs.Fits.{opened_as}
use Rattle.image.proofs.LaidLaws.{holds-part}
use Rattle.laid.specs.Back.{Lay, end_of, table_opened, value_offset, ItemBack, NestedBack}
use Rattle.laid.specs.Told.{Views, Both, TableBack, AllBack}
use Rattle.laid.proofs.LookupLaws.{value_of_lem, nested_of_lem}
use Rattle.laid.proofs.ItemLaws.{well_formed_lem, index_small, opens, key_back, found_back, not_found_back, item_back, offset_eight, bytes-held, nested-held, nested_opens}

-- the bytes of a view
pub views_bytes : (file : List ℕ) (looked : Result Pointer Refusal) (value : List ℕ) → Views file looked value → looked_bytes file looked ≡ value
unfolding looked_bytes
views_bytes file looked value v = rw v.place v.view

module _ (lay : Lay) (file : List ℕ) (state : State) (d t at : ℕ) (held : Holds file at (table_bytes lay.manner.byte lay.filter state (suc d) t at)) (short : length file ≤ longest_file)
    (even : at % 4 ≡ 0) (good : Writable state (suc d) t) where
  -- where the table's pointer ends
  abbrev pub end : ℕ
  end = end_of lay.filter state t at

  -- the record at an item's index
  abbrev item : ℕ → Item
  item i = item_at file (table_opened lay.filter state t at) (laid_index lay.manner.byte (state t) i)

  -- the table opens, with as many items as it has
  pub opens_back : open_table file at end ≡ Ok (table_opened lay.filter state t at)
  opens_back = opens lay file state d t at held short even good

  text : (i : ℕ) → Has (state t).members i → is_utf8 ((state t).key i) ≡ true
  text i l = (well_formed_lem state d t good).utf8 i l

  back : (i : ℕ) → Has (state t).members i → ItemBack lay.manner.byte lay.filter file state d t at i (item i)
  back i l = item_back lay file state d t at held short even good i l

  -- listing at an item's index writes its whole key
  pub listed_back : (i : ℕ) → Has (state t).members i → key_at file at end (laid_index lay.manner.byte (state t) i) ≡ Joined.joined ((state t).key i)
  unfolding opened_as
  listed_back i l =
      list_key file at end (laid_index lay.manner.byte (state t) i) 0 opens_back (index_small state d t good lay.manner.byte i l) ∙ key_back lay file state d t at held short even good i l

  -- lookup of a key whose item holds bytes answers a view of just these bytes
  pub held_back : (i : ℕ) (value : List ℕ) → Has (state t).members i → (state t).content i ≡ Content.bytes value
      → Views file (lookup_value lay.manner file at end ((state t).key i)) value
  unfolding covers_of
  held_back i value l is =
      let b = back i l in
      let v = value_offset lay.manner.byte lay.filter state d t at i in
      let from : (item i).from ≡ v = b.from in
      let to : (item i).to ≡ v + length value = rw is at b.to in
      let fits : v + length value ≤ length file = rw is at b.fits in
      let size : (item i).to - (item i).from ≡ length value = omega arith in
      record {
        start = (item i).from;
        end = (item i).to;
        place = value_found lay.manner file at end ((state t).key i) opens_back (text i l) (found_back lay file state d t at held short even good i l)
            ∙ value_of_lem file (item i) (rw is at b.kind) (omega arith) (rw from (offset_eight lay file state d t at held short even good i l (rw is))) (omega arith);
        view = rw (size, from) (holds-part file v value (bytes-held lay file state d t at held short even good i value l is));
      }

  -- 13, another kind than asked
  other_value : (i : ℕ) → Has (state t).members i → (kind_byte (kind_of ((state t).content i)) ≡ 118 → ⊥)
      → looked_number (lookup_value lay.manner file at end ((state t).key i)) ≡ 13
  other_value i l other =
      value_13 lay.manner file at end ((state t).key i) opens_back (text i l) (found_back lay file state d t at held short even good i l) (λ e. other (sym (back i l).kind ∙ e))

  other_table : (i : ℕ) → Has (state t).members i → (kind_byte (kind_of ((state t).content i)) ≡ 72 → ⊥)
      → looked_number (lookup_table lay.manner file at end ((state t).key i)) ≡ 13
  other_table i l other =
      table_13 lay.manner file at end ((state t).key i) opens_back (text i l) (found_back lay file state d t at held short even good i l) (λ e. other (sym (back i l).kind ∙ e))

  -- a value's key, as a table, answers 13
  pub value_no_table : (i : ℕ) (value : List ℕ) → Has (state t).members i → (state t).content i ≡ Content.bytes value
      → looked_number (lookup_table lay.manner file at end ((state t).key i)) ≡ 13
  value_no_table i value l is = other_table i l (rw is (λ e. omega arith))

  -- a nested table's key, as a value, answers 13
  pub table_no_value : (i u : ℕ) → Has (state t).members i → (state t).content i ≡ Content.nested u
      → looked_number (lookup_value lay.manner file at end ((state t).key i)) ≡ 13
  table_no_value i u l is = other_value i l (rw is (λ e. omega arith))

  -- a container's key answers 13, as a value and as a table
  pub container_back : (i : ℕ) → Has (state t).members i → (state t).content i ≡ Content.container → Both lay.manner file at end ((state t).key i) 13
  container_back i l is = record { value = other_value i l (rw is (λ e. omega arith)); table = other_table i l (rw is (λ e. omega arith)) }

  -- a nested table's key, as a table, answers the pointer of its table chunk
  pub table_looked : (i u : ℕ) → Has (state t).members i → (state t).content i ≡ Content.nested u
      → lookup_table lay.manner file at end ((state t).key i) ≡ Ok (record { start = value_offset lay.manner.byte lay.filter state d t at i; end = end_of lay.filter state u (value_offset lay.manner.byte lay.filter state d t at i) })
  unfolding covers_of
  table_looked i u l is =
      let b = back i l in
      let v = value_offset lay.manner.byte lay.filter state d t at i in
      let from : (item i).from ≡ v = b.from in
      let to : (item i).to ≡ end_of lay.filter state u v = rw is at b.to in
      let nested = nested_opens lay file state d u v short (nested-held lay file state d t at held short even good i u l is) in
      table_found lay.manner file at end ((state t).key i) opens_back (text i l) (found_back lay file state d t at held short even good i l)
      ∙ nested_of_lem file (item i) (table_opened lay.filter state u v) (rw is at b.kind) (rw (from, to) nested)
      ∙ rw (from, to)

  -- and the nested table stands there, whole
  pub nested_back : (i u : ℕ) → Has (state t).members i → (state t).content i ≡ Content.nested u → NestedBack lay.manner.byte lay.filter file state d u (value_offset lay.manner.byte lay.filter state d t at i)
  nested_back i u l is = nested-held lay file state d t at held short even good i u l is

  -- a key that no item has answers 12
  pub absent_back : (key : List ℕ) → is_utf8 key ≡ true → ((i : ℕ) → Has (state t).members i → (state t).key i ≡ key → ⊥) → Both lay.manner file at end key 12
  absent_back key good-text none =
      let nothing = not_found_back lay file state d t at held short even good key none in
      record { value = value_12 lay.manner file at end key opens_back good-text nothing; table = table_12 lay.manner file at end key opens_back good-text nothing }

  -- a key that is not UTF-8 answers 8
  pub not_text_back : (key : List ℕ) → is_utf8 key ≡ false → Both lay.manner file at end key 8
  not_text_back key bad = record { value = value_8 lay.manner file at end key opens_back bad; table = table_8 lay.manner file at end key opens_back bad }

  -- all of that of one table
  pub table_back : TableBack lay file state t at
  table_back = record {
    opens = opens_back;
    lists = listed_back;
    values = held_back;
    no_table = value_no_table;
    no_value = table_no_value;
    containers = container_back;
    absent = absent_back;
    not_text = not_text_back;
  }

-- the table and all that is nested in it, to the last level
pub all_back : (lay : Lay) (file : List ℕ) (state : State) (d t at : ℕ) → Holds file at (table_bytes lay.manner.byte lay.filter state d t at) → length file ≤ longest_file → at % 4 ≡ 0
    → Writable state d t → AllBack lay file state d t at
unfolding AllBack Writable
all_back lay file state zero t at held short even good = good
all_back lay file state (suc d) t at held short even good = (
  table_back lay file state d t at held short even good,
  λ i u l is. let n = nested_back lay file state d t at held short even good i u l is in (
    value_offset lay.manner.byte lay.filter state d t at i,
    table_looked lay file state d t at held short even good i u l is,
    all_back lay file state d u (value_offset lay.manner.byte lay.filter state d t at i) n.held short n.even n.writable,
  ),
)
