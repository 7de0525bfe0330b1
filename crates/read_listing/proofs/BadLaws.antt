-- 8 comes with the offset at which the given key is bad, 9 with that of the first fragment that is refused.
use Rattle.std.specs.Prelude.{Result, Ok, Err, Option, Some, None}
use Rattle.layout.specs.declared.pointer.Pointer.{Pointer}
use Rattle.read_listing.specs.declared.listing.WrittenKey.{WrittenKey}
use Prim.Native.Nat.{ℕ, zero, suc, ◌+◌, ◌<◌}
use mathlib.Core.Path.{◌≡◌, refl, sym, ap, ◌∙◌, subst}
use mathlib.Core.Logic.{inl, inr}
use mathlib.Core.List.{List}
use mathlib.Core.Bool.{false}
use native.Mathlib.Omega.{arith}
use lib.ListN.{length}
use borrow.Author.Tests.{leb-false, lt-leb}
use Rattle.words.specs.Choice.{pick}
use Rattle.words.proofs.ChoiceLaws.{pick_with}
use Rattle.text.specs.Utf8.{first_bad, is_utf8}
use Rattle.text.specs.Bad.{BadText}
use Rattle.text.proofs.BadLaws.{bad_text, bad_no_utf8}
use Rattle.layout.specs.declared.refusal.Refusal.{Refusal}
use Rattle.layout.specs.declared.refusal.Refusal.TheVariants.{KeyNotUtf8, FragmentNotUtf8}
use Rattle.layout.specs.declared.table.Table.{Table}
use Rattle.layout.specs.declared.item.Item.{Item}
use Rattle.layout.specs.Refusal.{number}
use Rattle.layout.specs.Pointer.{open_pointer}
use Rattle.layout.specs.Table.{open_table}
use Rattle.layout.specs.Item.{item_at}
use Rattle.layout.proofs.AnswerLaws.{pointed_below, opened_below, pointed_low, opened_low}
use Rattle.read_chain.specs.Chain.{fragment_of, parent_of, after_pointer, climb_from, Joined, append, join_step, key_of}
use Rattle.read_find.specs.Find.{Manner, find_item}
use Rattle.read.specs.Lookup.{at_found, lookup_in, at_opened, lookup_item, value_of, nested_of, at_item, lookup_value, lookup_table}
use Rattle.read_listing.specs.Listing.{key_in, key_opened, key_at, listed}
use Rattle.read.specs.Answer.{looked_number}
use Rattle.read_listing.specs.Bad.{EightAt, BadHere, BadFragment, NineAt}
use Rattle.read_listing.proofs.AnswerLaws.{pointed_looked, nested_looked}

-- a text that is not UTF-8 is bad at an offset that is known to be its first
bad_there : (s : List ℕ) {at : ℕ} → is_utf8 s ≡ false → first_bad s ≡ at → BadText s at
bad_there s e is = subst (BadText s) is (bad_text s e)

-- ---- 8

-- an item that was found is not refused with 8
value_other : (file : List ℕ) (item : Item) → looked_number (value_of file item) ≡ 8 → ⊥
unfolding value_of looked_number
value_other file item =
    let P : Result Pointer Refusal → Type 0 = λ l. looked_number l ≡ 8 → ⊥ in
    pick_with P _ _ _ (λ _ e. omega (arith, e, pointed_looked (open_pointer (length file) item.from item.to 8) item, pointed_below (length file) item.from item.to 8)) (λ _ e. omega arith)

nested_other : (file : List ℕ) (item : Item) → looked_number (nested_of file item) ≡ 8 → ⊥
unfolding nested_of looked_number
nested_other file item =
    let P : Result Pointer Refusal → Type 0 = λ l. looked_number l ≡ 8 → ⊥ in
    pick_with P _ _ _ (λ _ e. omega (arith, e, nested_looked (open_table file item.from item.to) item, opened_below file item.from item.to)) (λ _ e. omega arith)

module _ (manner : Manner) (file : List ℕ) (start end : ℕ) (key : List ℕ) {at : ℕ} where
  found_other : (t : Table) (f : Option ℕ) → at_found file t f ≡ Err (KeyNotUtf8 at) → ⊥
  unfolding at_found
  found_other t (Some i) e = let z : ◌≡◌ {A = ℕ} 0 1 = cc in omega arith
  found_other t None e = let z : ◌≡◌ {A = ℕ} 0 1 = cc in omega arith

  opened_8 : (o : Result Table Refusal) → open_table file start end ≡ o → at_opened o (λ t. lookup_in manner file key t) ≡ Err (KeyNotUtf8 at)
      → (t : Table) × (open_table file start end ≡ Ok t) × BadText key at
  unfolding at_opened lookup_in
  opened_8 (Ok t) opens e = (t, opens, by_text e)
    where
      by_text : lookup_in manner file key t ≡ Err (KeyNotUtf8 at) → BadText key at
      by_text =
          let P : Result Item Refusal → Type 0 = λ s. s ≡ Err (KeyNotUtf8 at) → BadText key at in
          pick_with P _ _ _ (λ _ f. absurd (found_other t (find_item manner file t key) f)) (λ bad f. bad_there key bad (cc))
  opened_8 (Err why) opens e =
      let is : why ≡ KeyNotUtf8 at = cc in
      absurd (omega (arith, subst (λ (w : Refusal). number w < 8) is (opened_low file start end opens)))

  sought_8 : (of : Item → Result Pointer Refusal) → ((item : Item) → looked_number (of item) ≡ 8 → ⊥) → (s : Result Item Refusal) → lookup_item manner file start end key ≡ s
      → at_item s of ≡ Err (KeyNotUtf8 at) → (t : Table) × (open_table file start end ≡ Ok t) × BadText key at
  unfolding at_item lookup_item looked_number
  sought_8 of other (Ok item) sought e = absurd (other item (ap looked_number e))
  sought_8 of other (Err why) sought e = opened_8 (open_table file start end) refl (sought ∙ (cc))

  eight : (of : Item → Result Pointer Refusal) → ((t : Table) × (open_table file start end ≡ Ok t) × BadText key at)
      → at_item (lookup_item manner file start end key) of ≡ Err (KeyNotUtf8 at)
  unfolding at_item lookup_item at_opened lookup_in pick
  eight of (t, opens, bad) = rw (opens, bad_no_utf8 key bad) (ap (λ (n : ℕ). Err (KeyNotUtf8 n)) (sym bad.is))

pub eight_at : EightAt
unfolding lookup_value lookup_table
eight_at manner file start end key at = (
  (sought_8 manner file start end key (λ item. value_of file item) (value_other file) _ refl, eight manner file start end key (λ item. value_of file item)),
  (sought_8 manner file start end key (λ item. nested_of file item) (nested_other file) _ refl, eight manner file start end key (λ item. nested_of file item)),
)

-- ---- 9

parent_other : (count parent at : ℕ) → parent_of count parent ≡ Err (FragmentNotUtf8 at) → ⊥
unfolding parent_of
parent_other count parent at =
    let P : Result (Option ℕ) Refusal → Type 0 = λ s. s ≡ Err (FragmentNotUtf8 at) → ⊥ in
    pick_with P _ _ _ (λ _ e. let z : ◌≡◌ {A = ℕ} 0 1 = cc in omega arith)
    (λ _. pick_with P _ _ _ (λ _ e. let z : ◌≡◌ {A = ℕ} 0 1 = cc in omega arith) (λ _ e. let z : ◌≡◌ {A = ℕ} 0 1 = cc in omega arith))

climb_9 : (file : List ℕ) (count : ℕ) (item : Item) {at : ℕ} → climb_from file count item ≡ Err (FragmentNotUtf8 at) → BadHere file item at
unfolding climb_from after_pointer
climb_9 file count item {at} e = by_pointer (open_pointer (length file) item.key (item.key + item.size) 1) refl e
  where
    by_pointer : (p : Result (Unit {0}) Refusal) → open_pointer (length file) item.key (item.key + item.size) 1 ≡ p
        → after_pointer p (pick (is_utf8 (fragment_of file item)) (parent_of count item.parent) (Err (FragmentNotUtf8 (first_bad (fragment_of file item))))) ≡ Err (FragmentNotUtf8 at)
        → BadHere file item at
    by_pointer (Ok _) opens f = (opens, by_text f)
      where
        by_text : pick (is_utf8 (fragment_of file item)) (parent_of count item.parent) (Err (FragmentNotUtf8 (first_bad (fragment_of file item)))) ≡ Err (FragmentNotUtf8 at)
            → BadText (fragment_of file item) at
        by_text =
            let P : Result (Option ℕ) Refusal → Type 0 = λ s. s ≡ Err (FragmentNotUtf8 at) → BadText (fragment_of file item) at in
            pick_with P _ _ _ (λ _ g. absurd (parent_other count item.parent at g)) (λ bad g. bad_there (fragment_of file item) bad (cc))
    by_pointer (Err why) opens f =
        let is : why ≡ FragmentNotUtf8 at = cc in
        absurd (omega (arith, subst (λ (w : Refusal). number w < 4) is (pointed_low (length file) item.key (item.key + item.size) 1 opens)))

append-broken : (j : Joined) (fragment : List ℕ) {why : Refusal} → append j fragment ≡ Joined.broken why → j ≡ Joined.broken why
unfolding append
append-broken (Joined.joined k) fragment e = let z : ◌≡◌ {A = ℕ} 0 1 = cc in absurd (omega arith)
append-broken (Joined.broken w) fragment e = e

step_9 : (file : List ℕ) (t : Table) (steps i : ℕ) {at : ℕ} → ((parent : ℕ) → key_of file t steps parent ≡ Joined.broken (FragmentNotUtf8 at) → BadFragment file t steps parent at)
    → (s : Result (Option ℕ) Refusal) → climb_from file t.count (item_at file t i) ≡ s
    → join_step s (fragment_of file (item_at file t i)) (λ parent. key_of file t steps parent) ≡ Joined.broken (FragmentNotUtf8 at) → BadFragment file t (suc steps) i at
unfolding join_step BadFragment
step_9 file t steps i above (Ok None) is e = let z : ◌≡◌ {A = ℕ} 0 1 = cc in absurd (omega arith)
step_9 file t steps i above (Ok (Some parent)) is e = inr (parent, is, above parent (append-broken (key_of file t steps parent) (fragment_of file (item_at file t i)) e))
step_9 file t steps i above (Err why) is e = inl (climb_9 file t.count (item_at file t i) (is ∙ (cc)))

pub key_bad : (file : List ℕ) (t : Table) (steps i : ℕ) {at : ℕ} → key_of file t steps i ≡ Joined.broken (FragmentNotUtf8 at) → BadFragment file t steps i at
unfolding key_of
key_bad file t zero i e = let z : ◌≡◌ {A = ℕ} 0 1 = cc in absurd (omega arith)
key_bad file t (suc steps) i e = step_9 file t steps i (λ parent f. key_bad file t steps parent f) _ refl e

pub bad_key : (file : List ℕ) (t : Table) (steps i : ℕ) {at : ℕ} → BadFragment file t steps i at → key_of file t steps i ≡ Joined.broken (FragmentNotUtf8 at)
unfolding key_of climb_from after_pointer join_step append BadFragment pick
bad_key file t zero i b = absurd b
bad_key file t (suc steps) i (inl (opens, bad)) =
    rw (opens, bad_no_utf8 (fragment_of file (item_at file t i)) bad) (ap (λ (n : ℕ). Joined.broken (FragmentNotUtf8 n)) (sym bad.is))
bad_key file t (suc steps) i (inr (parent, up, above)) = rw (up, bad_key file t steps parent above)

module _ (file : List ℕ) (start end position room at : ℕ) where
  listed-broken : (j : Joined) → listed j room position ≡ Err (FragmentNotUtf8 at) → j ≡ Joined.broken (FragmentNotUtf8 at)
  unfolding listed
  listed-broken (Joined.joined k) =
      let P : Result WrittenKey Refusal → Type 0 = λ l. l ≡ Err (FragmentNotUtf8 at) → Joined.joined k ≡ Joined.broken (FragmentNotUtf8 at) in
      pick_with P _ _ _ (λ _ e. let z : ◌≡◌ {A = ℕ} 0 1 = cc in absurd (omega arith)) (λ _ e. let z : ◌≡◌ {A = ℕ} 0 1 = cc in absurd (omega arith))
  listed-broken (Joined.broken why) = λ e. cc

  opened_9 : (o : Result Table Refusal) → open_table file start end ≡ o → key_opened file position o ≡ Joined.broken (FragmentNotUtf8 at)
      → (t : Table) × (open_table file start end ≡ Ok t) × (position < t.count) × BadFragment file t t.count position at
  unfolding key_opened key_in
  opened_9 (Ok t) opens e = (t, opens, (by_count e).0, (by_count e).1)
    where
      by_count : key_in file position t ≡ Joined.broken (FragmentNotUtf8 at) → (position < t.count) × BadFragment file t t.count position at
      by_count =
          let P : Joined → Type 0 = λ j. j ≡ Joined.broken (FragmentNotUtf8 at) → (position < t.count) × BadFragment file t t.count position at in
          pick_with P _ _ _ (λ _ f. let z : ◌≡◌ {A = ℕ} 0 1 = cc in absurd (omega arith)) (λ below f. (leb-false _ _ below, key_bad file t t.count position f))
  opened_9 (Err why) opens e =
      let is : why ≡ FragmentNotUtf8 at = cc in
      absurd (omega (arith, subst (λ (w : Refusal). number w < 8) is (opened_low file start end opens)))

  nine : ((t : Table) × (open_table file start end ≡ Ok t) × (position < t.count) × BadFragment file t t.count position at)
      → listed (key_at file start end position) room position ≡ Err (FragmentNotUtf8 at)
  unfolding key_at key_opened key_in listed pick
  nine (t, opens, below, bad) = rw (opens, lt-leb t.count position below, bad_key file t t.count position bad)

pub nine_at : NineAt
unfolding key_at
nine_at file start end position room at = (
  λ e. opened_9 file start end position room at (open_table file start end) refl (listed-broken file start end position room at (key_at file start end position) e),
  nine file start end position room at,
)
