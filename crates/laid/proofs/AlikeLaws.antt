-- Both lookups answer alike on every key of a laid table, and of those nested in it.
use Rattle.std.specs.Prelude.{Result, Err, Option, Some, None}
use Rattle.layout.specs.declared.refusal.Refusal.{Refusal}
use Rattle.layout.specs.declared.item.Item.{Item}
use Prim.Native.Nat.{ℕ, zero, suc, ◌%◌, ◌^◌, ◌≤◌, ◌<◌}
use mathlib.Core.Path.{◌≡◌, refl, sym, ap, ◌∙◌}
use mathlib.Core.List.{List}
use lib.ListN.{length}
use Rattle.words.specs.Choice.{pick}
use Rattle.text.specs.Utf8.{first_bad, is_utf8}
use Rattle.layout.specs.declared.refusal.Refusal.TheVariants.{KeyNotUtf8}
use Rattle.layout.specs.declared.table.Table.{Table}
use Rattle.layout.specs.Limits.{longest_file}
use Rattle.read_find.specs.declared.manner.Lookup.{Lookup}
use Rattle.read_find.specs.Find.{find_item}
use Rattle.read.specs.Lookup.{at_found, lookup_in, at_opened, lookup_item, at_item, value_of, nested_of, lookup_value, lookup_table}
use Rattle.check_table.specs.Strict.{manner_by}
use Rattle.model.specs.Table.{State}
use Rattle.image.specs.Image.{table_bytes}
use Rattle.image.specs.WellFormed.{Writable}
use Rattle.image.specs.Laid.{Holds}
use Rattle.laid.specs.Back.{Lay, end_of, table_opened, value_offset}
use Rattle.laid.specs.Alike.{Alike, AllAlike, LookupsAlike}
use Rattle.laid.proofs.LayLaws.{lay_of}
use Rattle.laid.proofs.ItemLaws.{found_is, found_again}
use Rattle.laid.proofs.ReadBack.{opens_back, table_looked, nested_back}

module _ (rule : ℕ → ℕ) (filter : ℕ) (few : filter < 2 ^ 27) (file : List ℕ) (state : State) (d t at : ℕ) (held : Holds file at (table_bytes rule filter state (suc d) t at))
    (short : length file ≤ longest_file) (even : at % 4 ≡ 0) (good : Writable state (suc d) t) where
  abbrev by : Lookup → Lay
  by lookup = lay_of rule lookup filter few

  abbrev table : Table
  table = table_opened filter state t at

  abbrev find : Lookup → List ℕ → Option ℕ
  find lookup key = find_item (manner_by rule lookup) file table key

  -- what one lookup finds, the other finds at the same index
  find_alike : (key : List ℕ) → find Lookup.Strict key ≡ find Lookup.Rust key
  find_alike key = cases (find Lookup.Strict key) refl (find Lookup.Rust key) refl
    where
      cases : (f : Option ℕ) → find Lookup.Strict key ≡ f → (g : Option ℕ) → find Lookup.Rust key ≡ g → find Lookup.Strict key ≡ find Lookup.Rust key
      cases (Some i) e g _ =
          let n = found_is (by Lookup.Strict) file state d t at held short even good key i e in
          e ∙ sym (ap (find Lookup.Rust) (sym n.1) ∙ found_again (by Lookup.Rust) file state d t at held short even good i n.0)
      cases None e (Some i) h =
          let n = found_is (by Lookup.Rust) file state d t at held short even good key i h in
          ap (find Lookup.Strict) (sym n.1) ∙ found_again (by Lookup.Strict) file state d t at held short even good i n.0 ∙ sym h
      cases None e None h = e ∙ sym h

  looked_alike : (key : List ℕ) → lookup_item (manner_by rule Lookup.Strict) file at (end_of filter state t at) key ≡ lookup_item (manner_by rule Lookup.Rust) file at (end_of filter state t at) key
  unfolding lookup_item lookup_in at_opened
  looked_alike key =
      let opens = opens_back (by Lookup.Rust) file state d t at held short even good in
      ap (λ (o : Result Table Refusal). at_opened o (λ u. lookup_in (manner_by rule Lookup.Strict) file key u)) opens
      ∙ ap (λ (f : Option ℕ). pick (is_utf8 key) (at_found file table f) (Err (KeyNotUtf8 (first_bad key)))) (find_alike key)
      ∙ sym (ap (λ (o : Result Table Refusal). at_opened o (λ u. lookup_in (manner_by rule Lookup.Rust) file key u)) opens)

  table_alike : Alike rule file at (end_of filter state t at)
  unfolding lookup_value lookup_table
  table_alike = record {
    value = λ key. ap (λ (s : Result Item Refusal). at_item s (λ item. value_of file item)) (looked_alike key);
    table = λ key. ap (λ (s : Result Item Refusal). at_item s (λ item. nested_of file item)) (looked_alike key);
  }

-- with every table nested in it
pub lookups_alike : LookupsAlike
unfolding AllAlike Writable
lookups_alike rule filter few file state zero t at held short even good = good
lookups_alike rule filter few file state (suc d) t at held short even good =
    let lay = lay_of rule Lookup.Rust filter few in (
      table_alike rule filter few file state d t at held short even good,
      λ i u l is. let n = nested_back lay file state d t at held short even good i u l is in (
        value_offset rule filter state d t at i,
        table_looked lay file state d t at held short even good i u l is,
        lookups_alike rule filter few file state d u (value_offset rule filter state d t at i) n.held short n.even n.writable,
      ),
    )
