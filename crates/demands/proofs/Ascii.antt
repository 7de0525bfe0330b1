-- Below 128 the forms agree, by either lookup, from the contracts.
use Prim.Native.Nat.{ℕ, ◌/◌, ◌%◌}
use mathlib.Core.Path.{◌≡◌, refl, sym, ap, ◌∙◌}
use lib.Dec.{eqb}
use Rattle.words.specs.Choice.{pick}
use Rattle.key_hash.specs.Hash.{rule_of}
use Rattle.key_hash.specs.declared.hash.Form.{Form}
use Rattle.read_find.specs.declared.manner.Lookup.{Lookup}
use Rattle.read_find.specs.Find.{Manner, shift_of}
use Rattle.read.specs.Lookup.{lookup_value, lookup_table}
use Rattle.read_listing.specs.Children.{next_child}
use Rattle.read_listing.proofs.FormByLaws.{ascii_lookups_by}
use Rattle.check_rules.specs.Rules.{check_table}
use Rattle.check_table.proofs.FormByLaws.{ascii_check_by}
use Rattle.answers.specs.Manner.{form_of, lookup_of}
use Rattle.answers.specs.Reading.{looked_answer, childed_answer}
use Rattle.answers.specs.Checking.{checked_answer}
use Rattle.demands.specs.Readers.{read_by}
use Rattle.demands.specs.Ascii.{AsciiCalls, AsciiChecking}
use Rattle.demands.proofs.Contracts.{getting_is, getting_table_is, listing_child_is, checking_is}

-- the manner of a form and a lookup
abbrev by : Form → Lookup → Manner
by form lookup = record { byte = rule_of form; shift = shift_of lookup }

-- what is alike in both forms by a lookup is alike in any two
any_two : {A : Type 0} (f : Manner → A) (lookup : Lookup) → f (by Form.Signed lookup) ≡ f (by Form.Plain lookup) → (a b : Form) → f (by a lookup) ≡ f (by b lookup)
any_two f lookup e Form.Plain Form.Plain = refl
any_two f lookup e Form.Plain Form.Signed = sym e
any_two f lookup e Form.Signed Form.Plain = e
any_two f lookup e Form.Signed Form.Signed = refl

lookup_by : (one other : ℕ) → one / 2 % 2 ≡ other / 2 % 2 → lookup_of one ≡ lookup_of other
unfolding lookup_of
lookup_by one other e = ap (λ (n : ℕ). pick (eqb n 0) Lookup.Rust Lookup.Strict) e

-- and of two numbers that name one lookup
two_manners : {A : Type 0} (f : Manner → A) → ((lookup : Lookup) → f (by Form.Signed lookup) ≡ f (by Form.Plain lookup)) → (one other : ℕ) → one / 2 % 2 ≡ other / 2 % 2 → f (read_by one) ≡ f (read_by other)
two_manners f e one other same =
    any_two f (lookup_of one) (e (lookup_of one)) (form_of one) (form_of other) ∙ ap (λ (l : Lookup). f (by (form_of other) l)) (lookup_by one other same)

pub ascii_calls : AsciiCalls
ascii_calls file start end key a one other same = record {
  value = λ r s g h.
      getting_is file start end key one r g ∙ ap looked_answer (two_manners (λ m. lookup_value m file start end key) (λ l. (ascii_lookups_by l file start end key a).0) one other same)
      ∙ sym (getting_is file start end key other s h);
  table = λ r s g h.
      getting_table_is file start end key one r g ∙ ap looked_answer (two_manners (λ m. lookup_table m file start end key) (λ l. (ascii_lookups_by l file start end key a).1) one other same)
      ∙ sym (getting_table_is file start end key other s h);
  child = λ at r s g h.
      listing_child_is file start end key at one r g ∙ ap childed_answer (two_manners (λ m. next_child m file start end key at) (λ l. (ascii_lookups_by l file start end key a).2 at) one other same)
      ∙ sym (listing_child_is file start end key at other s h);
}

pub ascii_checking : AsciiChecking
ascii_checking file start end low one other same r s g h =
    checking_is file start end one r g ∙ ap checked_answer (two_manners (λ m. check_table m file start end) (λ l. (ascii_check_by l file start end low).0) one other same)
    ∙ sym (checking_is file start end other s h)
