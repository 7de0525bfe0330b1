-- Two manners in which a key has one hash find the same: both lookups and the listing of children answer alike on every file.
use Rattle.std.specs.Prelude.{Result, Ok, Err, Option, Some, None}
use Rattle.layout.specs.declared.refusal.Refusal.{Refusal}
use Rattle.layout.specs.declared.item.Item.{Item}
use mathlib.Core.Path.{◌≡◌, refl, ap, ◌∙◌}
use mathlib.Core.Bool.{Bool, false}
use mathlib.Core.List.{List}
use Prim.Native.Nat.{ℕ, zero, suc, ◌+◌, ◌%◌}
use lib.Dec.{leb, eqb}
use Rattle.words.specs.Choice.{pick}
use Rattle.key_hash.specs.Hash.{hash_by}
use Rattle.text.specs.Utf8.{is_utf8, first_bad}
use Rattle.text.proofs.AsciiLaws.{ascii_hash}
use Rattle.layout.specs.declared.refusal.Refusal.TheVariants.{KeyNotUtf8}
use Rattle.layout.specs.declared.table.Table.{Table}
use Rattle.layout.specs.Table.{open_table}
use Rattle.layout.specs.Item.{item_at}
use Rattle.read_find.specs.declared.find.Run.{Run}
use Rattle.read_chain.specs.Chain.{key_of, names}
use Rattle.read_find.specs.Find.{shift_of, bloom_passes, run_of, item_matches, first_from, first_of, find_item}
use Rattle.read.specs.Lookup.{at_found, lookup_in, at_opened, lookup_item, at_item, value_of, nested_of, lookup_value, lookup_table}
use Rattle.read_listing.specs.Children.{child_of_sought, child_in_opened, next_child}
use Rattle.read_listing.specs.FormsBy.{glib_by, rust_by, AsciiLookupsBy}

first_alike : (test other : ℕ → Bool) → ((i : ℕ) → test i ≡ other i) → (count more at : ℕ) → first_from test count more at ≡ first_from other count more at
unfolding first_from
first_alike test other same count zero at = refl
first_alike test other same count (suc more) at =
    ap (λ (q : Bool). pick (leb count at) None (pick q (Some at) (first_from test count more (at + 1)))) (same at)
    ∙ ap (λ (r : Option ℕ). pick (leb count at) None (pick (other at) (Some at) r)) (first_alike test other same count more (at + 1))

module _ (shift : ℕ → ℕ) (file : List ℕ) (t : Table) (key : List ℕ) (e : hash_by (glib_by shift).byte key ≡ hash_by (rust_by shift).byte key) where
  match_alike : (i : ℕ) → item_matches (glib_by shift) file t key i ≡ item_matches (rust_by shift) file t key i
  unfolding item_matches
  match_alike i = ap (λ (h : ℕ). pick (eqb (item_at file t i).hash h) (names (key_of file t t.count i) key) false) e

  run_alike : (run : Run) → first_of (glib_by shift) file t key run ≡ first_of (rust_by shift) file t key run
  unfolding first_of
  run_alike run = first_alike (item_matches (glib_by shift) file t key) (item_matches (rust_by shift) file t key) match_alike _ _ _

  pub find_alike : find_item (glib_by shift) file t key ≡ find_item (rust_by shift) file t key
  unfolding find_item
  find_alike =
      ap (λ (h : ℕ). pick (eqb t.buckets 0) None (pick (eqb t.count 0) None (pick (bloom_passes shift file t h) (first_of (glib_by shift) file t key (run_of file t (h % t.buckets))) None))) e
      ∙ ap (λ (r : Option ℕ). pick (eqb t.buckets 0) None (pick (eqb t.count 0) None (pick (bloom_passes shift file t (hash_by (rust_by shift).byte key)) r None))) (run_alike (run_of file t (hash_by (rust_by shift).byte key % t.buckets)))

  in_alike : lookup_in (glib_by shift) file key t ≡ lookup_in (rust_by shift) file key t
  unfolding lookup_in
  in_alike = ap (λ (r : Option ℕ). pick (is_utf8 key) (at_found file t r) (Err (KeyNotUtf8 (first_bad key)))) find_alike

module _ (shift : ℕ → ℕ) (file key : List ℕ) (e : hash_by (glib_by shift).byte key ≡ hash_by (rust_by shift).byte key) where
  opened_alike : (o : Result Table Refusal) → at_opened o (λ t. lookup_in (glib_by shift) file key t) ≡ at_opened o (λ t. lookup_in (rust_by shift) file key t)
  unfolding at_opened
  opened_alike (Ok t) = in_alike shift file t key e
  opened_alike (Err why) = refl

  item_alike : (start end : ℕ) → lookup_item (glib_by shift) file start end key ≡ lookup_item (rust_by shift) file start end key
  unfolding lookup_item
  item_alike start end = opened_alike (open_table file start end)

  child_alike : (at : ℕ) (o : Result Table Refusal) → child_in_opened (glib_by shift) file key at o ≡ child_in_opened (rust_by shift) file key at o
  unfolding child_in_opened
  child_alike at (Ok t) = ap (λ (s : Result Item Refusal). child_of_sought s file t at) (in_alike shift file t key e)
  child_alike at (Err why) = refl

pub ascii_lookups_by : AsciiLookupsBy
unfolding lookup_value lookup_table next_child
ascii_lookups_by lookup file start end key a =
    let same = item_alike (shift_of lookup) file key (ascii_hash key a) start end in (
      ap (λ (s : Result Item Refusal). at_item s (λ item. value_of file item)) same,
      ap (λ (s : Result Item Refusal). at_item s (λ item. nested_of file item)) same,
      λ at. child_alike (shift_of lookup) file key (ascii_hash key a) at (open_table file start end),
    )
