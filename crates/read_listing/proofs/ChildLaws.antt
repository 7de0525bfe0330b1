-- What the list of a container says: refused, of whole words, or not; and that a list that opens lies in the file.
use Rattle.std.specs.Prelude.{Result, Ok, Err}
use Prim.Native.Nat.{ℕ, ◌-◌, ◌%◌, ◌≤◌}
use mathlib.Core.Path.{◌≡◌, refl}
use mathlib.Core.Bool.{Bool, true, false}
use mathlib.Core.List.{List}
use native.Mathlib.Omega.{arith}
use lib.ListN.{length}
use lib.Dec.{eqb}
use borrow.Author.Tests.{eq-eqb, ne_eqb}
use Rattle.words.specs.Choice.{pick}
use Rattle.layout.specs.declared.refusal.Refusal.{Refusal}
use Rattle.layout.specs.declared.refusal.Refusal.TheVariants.{OtherKind}
use Rattle.layout.specs.declared.kind.Kind.{Kind}
use Rattle.layout.specs.declared.item.Item.{Item}
use Rattle.layout.specs.Kind.{kind_byte}
use Rattle.layout.specs.Pointer.{open_pointer}
use Rattle.layout.proofs.OpenLaws.{pointer_inside}
use Rattle.read_listing.specs.Children.{whole_words, open_list}

-- ---- a container's list

module _ (file : List ℕ) (item : Item) (is : item.kind ≡ kind_byte Kind.Container) {from to : ℕ} (f : from ≡ item.from) (s : to ≡ item.to) where
  pub list-refused : {why : Refusal} → open_pointer (length file) from to 4 ≡ Err why → Err why ≡ open_list file item
  unfolding open_list whole_words pick
  list-refused e = rw (eq-eqb _ _ is, ← f, ← s, e)

  module _ (inside : open_pointer (length file) from to 4 ≡ Ok tt) where
    pub list_whole : (to - from) % 4 ≡ 0 → (Ok tt) ≡ open_list file item
    unfolding open_list whole_words pick
    list_whole e = rw (eq-eqb _ _ is, ← f, ← s, inside, eq-eqb _ _ e)

    pub list_uneven : ((to - from) % 4 ≡ 0 → ⊥) → Err OtherKind ≡ open_list file item
    unfolding open_list whole_words pick
    list_uneven e = rw (eq-eqb _ _ is, ← f, ← s, inside, ne_eqb _ _ e)

-- a list that opens lies in the file
whole_inside : (p : Result (Unit {0}) Refusal) (item : Item) → whole_words p item ≡ Ok tt → p ≡ Ok tt
unfolding whole_words
whole_inside (Ok _) item e = refl
whole_inside (Err why) item e = e

pub list_inside : (file : List ℕ) (item : Item) → open_list file item ≡ Ok tt → (item.from ≤ item.to) × (item.to ≤ length file)
unfolding open_list pick
list_inside file item e = by (eqb item.kind (kind_byte Kind.Container)) e
  where
    by : (b : Bool) → pick b (whole_words (open_pointer (length file) item.from item.to 4) item) (Err OtherKind) ≡ Ok tt
        → (item.from ≤ item.to) × (item.to ≤ length file)
    by true e = pointer_inside _ _ _ _ (whole_inside _ item e)
    by false e = let z : ◌≡◌ {A = ℕ} 0 1 = cc in absurd (omega arith)
