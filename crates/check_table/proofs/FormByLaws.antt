-- The check of a table whose keys are of ASCII bytes answers alike in both forms, by either lookup: each key has one hash, so its lookup finds the same item.
use Rattle.std.specs.Prelude.{Result, Ok, Err, Option, None}
use Rattle.layout.specs.declared.refusal.Refusal.{Refusal}
use mathlib.Core.Path.{◌≡◌, refl, sym, ap, ◌∙◌}
use mathlib.Core.Bool.{true}
use mathlib.Core.List.{List}
use Prim.Native.Nat.{ℕ, zero, suc, ◌+◌, ◌≤◌, ◌<◌}
use native.Mathlib.Omega.{arith}
use lib.Dec.{eqb}
use Rattle.words.specs.Choice.{pick}
use Rattle.text.specs.Ascii.{is_ascii}
use Rattle.text.specs.Utf8.{is_utf8}
use Rattle.text.proofs.AsciiLaws.{ascii_hash}
use Rattle.layout.specs.declared.table.Table.{Table}
use Rattle.layout.specs.Table.{open_table}
use Rattle.layout.specs.Kind.{kind_known}
use Rattle.layout.specs.Item.{item_at}
use Rattle.read_find.specs.Find.{shift_of}
use Rattle.read_chain.specs.Chain.{Joined, key_of}
use Rattle.read_listing.specs.Listing.{key_opened, key_at}
use Rattle.read_listing.proofs.ListingLaws.{in_range}
use Rattle.read_listing.specs.FormsBy.{glib_by, rust_by}
use Rattle.read_listing.proofs.FormByLaws.{find_alike}
use Rattle.check_rules.specs.declared.checked.Checked.{Checked}
use Rattle.check_rules.specs.Rules.{index_of, sought_at, is_at, key_lists, key_finds, value_opens, children_good, parent_good, broken_rule, first_broken, explained, check_in, check_opened, check_table}
use Rattle.check_table.proofs.SoundLaws.{passes_exactly_the_sound}
use Rattle.check_table.specs.FormsBy.{AsciiListed, AsciiCheckBy}

broken_alike : (broken other : ℕ → ℕ) (more at : ℕ) → ((i : ℕ) → at ≤ i → i < at + more → broken i ≡ other i) → first_broken broken more at ≡ first_broken other more at
unfolding first_broken
broken_alike broken other zero at same = refl
broken_alike broken other (suc more) at same =
    ap (λ (n : ℕ). pick (eqb n 0) (first_broken broken more (at + 1)) (Checked.Broken n at)) (same at (omega arith) (omega arith))
    ∙ ap (λ (c : Checked). pick (eqb (other at) 0) c (Checked.Broken (other at) at)) (broken_alike broken other more (at + 1) (λ i low high. same i (omega (arith, low)) (omega (arith, high))))

module _ (shift : ℕ → ℕ) (file : List ℕ) (t : Table) (low : (i : ℕ) (key : List ℕ) → i < t.count → key_of file t t.count i ≡ Joined.joined key → is_ascii key ≡ true) where
  sought_alike : (i : ℕ) → i < t.count → (j : Joined) → key_of file t t.count i ≡ j → sought_at (glib_by shift) file t j ≡ sought_at (rust_by shift) file t j
  unfolding sought_at index_of
  sought_alike i below (Joined.joined key) is = ap (λ (f : Option ℕ). pick (is_utf8 key) f None) (find_alike shift file t key (ascii_hash key (low i key below is)))
  sought_alike i below (Joined.broken why) is = refl

  rule_alike : (i : ℕ) → i < t.count → broken_rule (glib_by shift) file t i ≡ broken_rule (rust_by shift) file t i
  unfolding broken_rule key_finds
  rule_alike i below =
      ap (λ (f : Option ℕ). pick (key_lists file t i) (pick (is_at i f) (pick (kind_known (item_at file t i).kind) (pick (value_opens file (item_at file t i))
      (pick (children_good file t i (item_at file t i)) (pick (parent_good file t i (item_at file t i)) 0 6) 5) 4) 3) 2) 1) (sought_alike i below (key_of file t t.count i) refl)

  in_alike : check_in (glib_by shift) file t ≡ check_in (rust_by shift) file t
  unfolding check_in
  in_alike = ap (explained file t) (broken_alike (broken_rule (glib_by shift) file t) (broken_rule (rust_by shift) file t) t.count 0 (λ i from to. rule_alike i (omega (arith, to))))

opened_alike : (shift : ℕ → ℕ) (file : List ℕ) (start end : ℕ) (o : Result Table Refusal) → open_table file start end ≡ o → AsciiListed file start end → check_opened (glib_by shift) file o ≡ check_opened (rust_by shift) file o
unfolding check_opened key_at key_opened
opened_alike shift file start end (Ok t) is low = in_alike shift file t (λ i key below joins. low i key (ap (key_opened file i) is ∙ in_range file t i below ∙ joins))
opened_alike shift file start end (Err why) is low = refl

pub ascii_check_by : AsciiCheckBy
unfolding check_table
ascii_check_by lookup file start end low =
    let shift = shift_of lookup in
    let same : check_table (glib_by shift) file start end ≡ check_table (rust_by shift) file start end = opened_alike shift file start end (open_table file start end) refl low in
    let plain = passes_exactly_the_sound (rust_by shift) file start end in
    let signed = passes_exactly_the_sound (glib_by shift) file start end in
    (same, (λ s. plain.0 (sym same ∙ signed.1 s), λ s. signed.0 (same ∙ plain.1 s)))
