-- The check of a table whose keys are of ASCII bytes answers alike in both forms: each key has one hash, so its lookup finds the same item.
use Rattle.std.specs.Prelude.{Result, Ok, Err, Option, None}
use Rattle.layout.specs.declared.refusal.Refusal.{Refusal}
use mathlib.Core.Path.{◌≡◌, refl, sym, ap, ◌∙◌}
use mathlib.Core.List.{List}
use Prim.Native.Nat.{ℕ, zero, suc, ◌+◌}
use lib.Dec.{eqb}
use Rattle.words.specs.Choice.{pick}
use Rattle.text.specs.Utf8.{is_utf8}
use Rattle.text.proofs.AsciiLaws.{ascii_hash}
use Rattle.layout.specs.declared.table.Table.{Table}
use Rattle.layout.specs.Table.{open_table}
use Rattle.layout.specs.Kind.{kind_known}
use Rattle.layout.specs.Item.{item_at}
use Rattle.read_chain.specs.Chain.{Joined, key_of}
use Rattle.read_find.specs.Find.{rust}
use Rattle.read_listing.specs.Forms.{glib}
use Rattle.read_listing.proofs.FormLaws.{find_alike}
use Rattle.check_rules.specs.declared.checked.Checked.{Checked}
use Rattle.check_rules.specs.Rules.{index_of, sought_at, is_at, key_lists, key_finds, value_opens, children_good, parent_good, broken_rule, first_broken, explained, check_in, check_opened, check_table}
use Rattle.check_table.specs.Forms.{AsciiKeys, AsciiCheck}
use Rattle.check_table.proofs.SoundLaws.{passes_exactly_the_sound}

broken_alike : (broken other : ℕ → ℕ) → ((i : ℕ) → broken i ≡ other i) → (more at : ℕ) → first_broken broken more at ≡ first_broken other more at
unfolding first_broken
broken_alike broken other same zero at = refl
broken_alike broken other same (suc more) at =
    ap (λ (n : ℕ). pick (eqb n 0) (first_broken broken more (at + 1)) (Checked.Broken n at)) (same at)
    ∙ ap (λ (c : Checked). pick (eqb (other at) 0) c (Checked.Broken (other at) at)) (broken_alike broken other same more (at + 1))

module _ (file : List ℕ) (t : Table) (low : AsciiKeys file t) where
  sought_alike : (i : ℕ) (j : Joined) → key_of file t t.count i ≡ j → sought_at glib file t j ≡ sought_at rust file t j
  unfolding sought_at index_of
  sought_alike i (Joined.joined key) is = ap (λ (f : Option ℕ). pick (is_utf8 key) f None) (find_alike file t key (ascii_hash key (low i key is)))
  sought_alike i (Joined.broken why) is = refl

  rule_alike : (i : ℕ) → broken_rule glib file t i ≡ broken_rule rust file t i
  unfolding broken_rule key_finds
  rule_alike i =
      ap (λ (f : Option ℕ). pick (key_lists file t i) (pick (is_at i f) (pick (kind_known (item_at file t i).kind) (pick (value_opens file (item_at file t i))
      (pick (children_good file t i (item_at file t i)) (pick (parent_good file t i (item_at file t i)) 0 6) 5) 4) 3) 2) 1) (sought_alike i (key_of file t t.count i) refl)

  in_alike : check_in glib file t ≡ check_in rust file t
  unfolding check_in
  in_alike = ap (explained file t) (broken_alike (broken_rule glib file t) (broken_rule rust file t) rule_alike t.count 0)

opened_alike : (file : List ℕ) (start end : ℕ) (o : Result Table Refusal) → open_table file start end ≡ o
    → ((t : Table) → open_table file start end ≡ Ok t → AsciiKeys file t) → check_opened glib file o ≡ check_opened rust file o
unfolding check_opened
opened_alike file start end (Ok t) is low = in_alike file t (low t is)
opened_alike file start end (Err why) is low = refl

pub ascii_check : AsciiCheck
unfolding check_table
ascii_check file start end low =
    let same : check_table glib file start end ≡ check_table rust file start end = opened_alike file start end (open_table file start end) refl low in
    let plain = passes_exactly_the_sound rust file start end in
    let signed = passes_exactly_the_sound glib file start end in
    (same, (λ s. plain.0 (sym same ∙ signed.1 s), λ s. signed.0 (same ∙ plain.1 s)))
