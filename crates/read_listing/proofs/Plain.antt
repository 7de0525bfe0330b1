-- What reading promises beside its equations, as a reader of document 01 would say it.
use Rattle.std.specs.Prelude.{Ok, Err, Some, None}
use Prim.Native.Nat.{ℕ, zero, suc, ◌+◌, ◌%◌, ◌≤◌, ◌<◌}
use mathlib.Core.Path.{◌≡◌, refl, sym, ap, ◌∙◌, subst}
use mathlib.Core.List.{List}
use mathlib.Core.Bool.{true, false}
use native.Mathlib.Omega.{arith}
use lib.ListN.{length, take, drop}
use borrow.Author.Tests.{lt-ltb, ne_eqb}
use Rattle.words.specs.Choice.{pick}
use Rattle.key_hash.specs.Hash.{hash_by}
use Rattle.words.proofs.ChoiceLaws.{pick_same}
use Rattle.text.specs.Utf8.{is_utf8}
use Rattle.layout.specs.declared.refusal.Refusal.{Refusal}
use Rattle.layout.specs.declared.refusal.Refusal.TheVariants.{ParentsEndless}
use Rattle.layout.specs.declared.table.Table.{Table}
use Rattle.layout.specs.declared.item.Item.{Item}
use Rattle.layout.specs.Pointer.{open_pointer}
use Rattle.layout.specs.Table.{open_table, InFile}
use Rattle.layout.specs.Item.{item_at, no_item}
use Rattle.read_find.specs.declared.find.Run.{Run}
use Rattle.read_listing.specs.declared.listing.Cursor.{Cursor}
use Rattle.read_listing.specs.declared.listing.Valued.{Valued}
use Rattle.read_chain.specs.Chain.{fragment_of, parent_of, climb_from, Joined, append, join_step, key_of, names}
use Rattle.read_find.specs.Find.{Manner, bloom_passes, run_of, item_matches, find_item}
use Rattle.read.specs.Lookup.{lookup_value, lookup_table}
use Rattle.read_listing.specs.Answer.{listed_number}
use Rattle.read_listing.specs.Listing.{key_in, key_opened, key_at, listed, written, next_value, value_at}
use Rattle.read_listing.specs.Children.{next_child}
use Rattle.read_chain.proofs.ChainLaws.{climb_on, joined-names}
use Rattle.read_find.proofs.FindLaws.{FindSays, find_says, match_true, match_false}
use Rattle.read_listing.proofs.LookupLaws.{LookedFits, value_looked_fits, table_looked_fits, ValuedFits, valued_fits, ChildedFits, childed_fits}
use Rattle.read.proofs.SoughtLaws.{Placed, value_answers, table_answers}
use Rattle.read_listing.proofs.ListingLaws.{in_range, key_in_range, front, refused_keeps, NextSays, next_says}

-- ---- lookup

-- an item of the table with the key's hash, whose chain joins the key, of a kind and with a pointer
pub record Named (manner : Manner) (file : List ℕ) (t : Table) (key : List ℕ) (i kind from to : ℕ) : Type 0 where
  pub below : i < t.count
  pub hashed : (item_at file t i).hash ≡ hash_by manner.byte key
  pub joins : key_of file t t.count i ≡ Joined.joined key
  pub kinded : (item_at file t i).kind ≡ kind
  pub starts : (item_at file t i).from ≡ from
  pub ends : (item_at file t i).to ≡ to

-- the run of the key's bucket
abbrev pub run_for : Manner → List ℕ → Table → List ℕ → Run
run_for manner file t key = run_of file t (hash_by manner.byte key % t.buckets)

module _ (manner : Manner) (file : List ℕ) (t : Table) (key : List ℕ) where
  -- what is found is an item of the table, has the key's hash, and its chain joins the key
  pub found_names : (i : ℕ) → find_item manner file t key ≡ Some i
      → (i < t.count) × ((item_at file t i).hash ≡ hash_by manner.byte key) × (key_of file t t.count i ≡ Joined.joined key)
  unfolding FindSays
  found_names i e =
      let says = subst (FindSays manner file t key (run_for manner file t key)) e (find_says manner file t key) in
      let named = match_true manner file t key i says.3 in
      (says.0, named.0, named.1)

  -- it lies in the run of the key's bucket, and no item before it in the run has the hash and joins the key
  pub found_first : (i : ℕ) → find_item manner file t key ≡ Some i
      → ((run_for manner file t key).first ≤ i) × (i < (run_for manner file t key).last)
      × ((k : ℕ) → (run_for manner file t key).first ≤ k → k < i
      → (item_at file t k).hash ≡ hash_by manner.byte key → key_of file t t.count k ≡ Joined.joined key → ⊥)
  unfolding FindSays
  found_first i e =
      let says = subst (FindSays manner file t key (run_for manner file t key)) e (find_says manner file t key) in
      (says.1, says.2, λ k l h. match_false manner file t key k (says.4 k l h))

  -- what is not found has no item in its run that has the hash and joins the key
  pub not_found : find_item manner file t key ≡ None → (t.buckets ≡ 0 → ⊥) → bloom_passes manner.shift file t (hash_by manner.byte key) ≡ true
      → (i : ℕ) → (run_for manner file t key).first ≤ i → i < (run_for manner file t key).last → i < t.count
      → (item_at file t i).hash ≡ hash_by manner.byte key → key_of file t t.count i ≡ Joined.joined key → ⊥
  unfolding FindSays
  not_found e some passes i from to below =
      let says = subst (FindSays manner file t key (run_for manner file t key)) e (find_says manner file t key) in
      match_false manner file t key i (says some passes i from to below)

named : (manner : Manner) (file : List ℕ) (t : Table) (key : List ℕ) (i : ℕ) {item : Item} {kind from to : ℕ} → find_item manner file t key ≡ Some i
    → item_at file t i ≡ item → Placed kind item from to → Named manner file t key i kind from to
named manner file t key i found is placed =
    let names = found_names manner file t key i found in
    record {
      below = names.0;
      hashed = names.1;
      joins = names.2;
      kinded = rw is placed.kinded;
      starts = rw is placed.starts;
      ends = rw is placed.ends;
    }

-- a value that is looked up is that of an item of kind 'v' of the table, with the key's hash, whose chain joins the key
pub value_named : (manner : Manner) (file : List ℕ) (start end : ℕ) (key : List ℕ) {from to : ℕ} → lookup_value manner file start end key ≡ Ok (record { start = from; end = to })
    → (t : Table) × (i : ℕ) × (open_table file start end ≡ Ok t) × Named manner file t key i 118 from to
value_named manner file start end key e =
    let a = value_answers manner file start end key e in
    (a.seeks.table, a.seeks.index, a.seeks.opens, named manner file a.seeks.table key a.seeks.index a.seeks.found a.seeks.is a.placed)

-- a nested table that is looked up is that of an item of kind 'H', in the same way
pub table_named : (manner : Manner) (file : List ℕ) (start end : ℕ) (key : List ℕ) {from to : ℕ} → lookup_table manner file start end key ≡ Ok (record { start = from; end = to })
    → (t : Table) × (i : ℕ) × (open_table file start end ≡ Ok t) × Named manner file t key i 72 from to
table_named manner file start end key e =
    let a = table_answers manner file start end key e in
    (a.seeks.table, a.seeks.index, a.seeks.opens, named manner file a.seeks.table key a.seeks.index a.seeks.found a.seeks.is a.placed)

-- a value that is looked up lies in the file
pub value_in_file : (manner : Manner) (file : List ℕ) (start end : ℕ) (key : List ℕ) {from to : ℕ} → lookup_value manner file start end key ≡ Ok (record { start = from; end = to })
    → (from ≤ to) × (to ≤ length file)
unfolding LookedFits
value_in_file manner file start end key e = subst (LookedFits file) e (value_looked_fits manner file start end key)

-- and so does a nested table
pub table_in_file : (manner : Manner) (file : List ℕ) (start end : ℕ) (key : List ℕ) {from to : ℕ} → lookup_table manner file start end key ≡ Ok (record { start = from; end = to })
    → (from ≤ to) × (to ≤ length file)
unfolding LookedFits
table_in_file manner file start end key e = subst (LookedFits file) e (table_looked_fits manner file start end key)

-- ---- listing

-- a value that is listed lies in the file
pub listed_value_in_file : (file : List ℕ) (start end at : ℕ) {index from to : ℕ} {next : Cursor} → value_at file start end at ≡ Valued.Value index from to next
    → (from ≤ to) × (to ≤ length file)
unfolding ValuedFits
listed_value_in_file file start end at e = subst (ValuedFits file) e (valued_fits file start end at)

-- so does the fragment of a child that is listed
pub child_in_file : (manner : Manner) (file : List ℕ) (start end : ℕ) (key : List ℕ) (at : ℕ) {index kind from to : ℕ} {next : Cursor}
    → next_child manner file start end key at ≡ Ok (record { index = index; kind = kind; start = from; end = to; next = next }) → (from ≤ to) × (to ≤ length file)
unfolding ChildedFits
child_in_file manner file start end key at e = subst (ChildedFits file) e (childed_fits manner file start end key at)

-- the item listed is the first of kind 'v' at or after the position; where there is none, no item from there on is of kind 'v'
pub next_value_first : (file : List ℕ) (t : Table) (at : ℕ) → next_value file t at < t.count
    → (at ≤ next_value file t at) × ((item_at file t (next_value file t at)).kind ≡ 118) × ((k : ℕ) → at ≤ k → k < next_value file t at → (item_at file t k).kind ≡ 118 → ⊥)
unfolding NextSays
next_value_first file t at below =
    let says = next_says file t at in
    ((says.0 below).0, (says.0 below).1, λ k l h. says.1 k l h (omega arith))

pub next_value-none : (file : List ℕ) (t : Table) (at : ℕ) → t.count ≤ next_value file t at → (k : ℕ) → at ≤ k → k < t.count → (item_at file t k).kind ≡ 118 → ⊥
unfolding NextSays
next_value-none file t at past k from below = (next_says file t at).1 k from (omega arith) below

-- a key that is listed stands at the front of the buffer, is the key that lookup compares, and leaves all behind it as it was
module _ (file : List ℕ) (start end at : ℕ) (out : List ℕ) {size : ℕ} {next : Cursor}
    (said : listed (key_at file start end at) (length out) at ≡ Ok (record { size = size; next = next })) where
  pub listed_key_lem : {t : Table} → open_table file start end ≡ Ok t
      → (at < t.count) × (key_of file t t.count at ≡ Joined.joined (take size (written (key_at file start end at) out)))
  unfolding key_at key_opened
  listed_key_lem {t} opens =
      let is : key_at file start end at ≡ key_in file at t = ap (key_opened file at) opens in
      let key : key_in file at t ≡ Joined.joined (take size (written (key_at file start end at) out)) = sym is ∙ (front _ out _ said).key in
      let below : at < t.count = key_in_range file at t key in
      (below, sym (in_range file t at below) ∙ key)

  pub listed_key-names : {t : Table} → open_table file start end ≡ Ok t → names (key_of file t t.count at) (take size (written (key_at file start end at) out)) ≡ true
  listed_key-names opens = joined-names _ _ (listed_key_lem opens).1

  pub listed_key_rest : drop size (written (key_at file start end at) out) ≡ drop size out
  listed_key_rest = (front _ out _ said).rest

  pub listed_key_next : next.at ≡ at + 1
  listed_key_next = (front _ out _ said).moved

-- a refusal writes nothing
pub refused_writes_nothing : (file : List ℕ) (start end at : ℕ) (out : List ℕ) {why : Refusal}
    → listed (key_at file start end at) (length out) at ≡ Err why → written (key_at file start end at) out ≡ out
refused_writes_nothing file start end at out e = refused_keeps (key_at file start end at) out at e

-- ---- an item whose parent is itself

module _ (file : List ℕ) (t : Table) (i : ℕ) (lies : InFile file t) (below : i < t.count) (own : (item_at file t i).parent ≡ i)
    (opens : open_pointer (length file) (item_at file t i).key ((item_at file t i).key + (item_at file t i).size) 1 ≡ Ok tt)
    (text : is_utf8 (fragment_of file (item_at file t i)) ≡ true) where
  own_step : climb_from file t.count (item_at file t i) ≡ Ok (Some i)
  unfolding parent_of pick
  own_step =
      let no-root : (i ≡ no_item → ⊥) = λ e. omega (arith, lies.short, lies.items) in
      climb_on file t.count (item_at file t i) opens text ∙ rw (own, ne_eqb i no_item no-root, lt-ltb i t.count below)

  -- its chain never reaches a root, however many steps it is given
  pub self_parent_ends : (steps : ℕ) → key_of file t steps i ≡ Joined.broken ParentsEndless
  unfolding key_of join_step append
  self_parent_ends zero = refl
  self_parent_ends (suc steps) = rw (own_step, self_parent_ends steps)

  -- listing it is refused with 11
  pub self_parent_listed : (start end : ℕ) (room : ℕ) → open_table file start end ≡ Ok t
      → listed_number (listed (key_at file start end i) room i) ≡ 11
  unfolding key_at key_opened listed listed_number
  self_parent_listed start end room table = rw (table, in_range file t i below, self_parent_ends t.count)

  -- and it matches no key
  pub self_parent_no_match : (manner : Manner) (key : List ℕ) → item_matches manner file t key i ≡ false
  unfolding item_matches names
  self_parent_no_match manner key = rw (self_parent_ends t.count) (pick_same _ false)
