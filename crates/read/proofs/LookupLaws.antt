-- What a lookup knows of the item that was found, and what it answers in an open table, case by case, whatever is asked of that item: its value or its nested table.
use Rattle.std.specs.Prelude.{Result, Err, Option, Some, None, Ok}
use Rattle.layout.specs.declared.refusal.Refusal.{Refusal}
use Rattle.layout.specs.declared.pointer.Pointer.{Pointer}
use Rattle.words.specs.Choice.{pick}
use Rattle.text.specs.Utf8.{first_bad, is_utf8}
use Rattle.layout.specs.declared.refusal.Refusal.TheVariants.{KeyNotUtf8, KeyNotFound}
use Rattle.layout.specs.declared.table.Table.{Table}
use Rattle.layout.specs.declared.item.Item.{Item}
use Rattle.layout.specs.Item.{item_at}
use Rattle.read_find.specs.Find.{Manner, find_item}
use Rattle.read.specs.Lookup.{lookup_in, at_found, at_item, value_of}
use mathlib.Core.List.{List}
use mathlib.Core.Bool.{true, false}
use Prim.Native.Nat.{ℕ}
use mathlib.Core.Path.{◌≡◌, refl, sym, ◌∙◌}
use Rattle.std.specs.Option.{ok_or}
use native.Mathlib.Omega.{arith}
use Rattle.read_find.proofs.FindLaws.{found_below}

-- what `ok_or` says of what was found
pub found_some : (found : Option ℕ) (why : Refusal) {r : Result ℕ Refusal} {i : ℕ} → r ≡ ok_or found why → r ≡ Ok i → found ≡ Some i
found_some (Some j) why {i = i} e is = let f : ◌≡◌ {A = Result ℕ Refusal} (Ok j) (Ok i) = sym e ∙ is in cc
found_some None why {i = i} e is = let f : ◌≡◌ {A = Result ℕ Refusal} (Err why) (Ok i) = sym e ∙ is in let z : ◌≡◌ {A = ℕ} 0 1 = cc in absurd (omega arith)

pub found_none : (found : Option ℕ) {r : Result ℕ Refusal} {why given : Refusal} → r ≡ ok_or found why → r ≡ Err given → (found ≡ None) × (given ≡ why)
found_none (Some j) {given = given} e is = let f : ◌≡◌ {A = Result ℕ Refusal} (Ok j) (Err given) = sym e ∙ is in let z : ◌≡◌ {A = ℕ} 0 1 = cc in absurd (omega arith)
found_none None {why = why} {given = given} e is = let f : ◌≡◌ {A = Result ℕ Refusal} (Err why) (Err given) = sym e ∙ is in (refl, cc)

-- what a lookup needs where it goes on with `ok_or`
pub ruleset finds = (found_below, found_some, found_none)

-- the value of a key in an open table
abbrev pub value_in : Manner → List ℕ → Table → List ℕ → Result Pointer Refusal
value_in manner file t key = at_item (lookup_in manner file key t) (λ item. value_of file item)

module _ (of : Item → Result Pointer Refusal) (manner : Manner) (file : List ℕ) (t : Table) (key : List ℕ) where
  pub looked_bad : {at : ℕ} → is_utf8 key ≡ false → at ≡ first_bad key → Err (KeyNotUtf8 at) ≡ at_item (lookup_in manner file key t) of
  unfolding lookup_in at_item pick
  looked_bad bad is = rw (bad, is)

  module _ {looked : Result Pointer Refusal} {found : Option ℕ} (text : is_utf8 key ≡ true) (finds : found ≡ find_item manner file t key) where
    pub looked_none : found ≡ None → looked ≡ Err KeyNotFound → looked ≡ at_item (lookup_in manner file key t) of
    unfolding lookup_in at_found at_item pick
    looked_none none is = rw (text, ← finds, none, is)

    pub looked_some : {index : ℕ} {item : Item} → found ≡ Some index → item ≡ item_at file t index → looked ≡ of item → looked ≡ at_item (lookup_in manner file key t) of
    unfolding lookup_in at_found at_item pick
    looked_some some at is = rw (text, ← finds, some, ← at, is)
