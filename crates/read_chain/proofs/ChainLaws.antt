-- Laws about an item's key: what a step of its chain tells, one turn of the definition and its end.
use Rattle.std.specs.Prelude.{Result, Ok, Err, Option, Some, None}
use Prim.Native.Nat.{ℕ, suc, ◌+◌, ◌-◌, ◌≤◌, ◌<◌}
use mathlib.Core.Path.{◌≡◌, refl, sym, ap, ◌∙◌}
use mathlib.Core.List.{List}
use mathlib.Core.Bool.{true}
use native.Mathlib.Omega.{arith}
use native.Mathlib.Nat.{add-sub_cancel_left}
use lib.ListN.{length, take, drop}
use lib.Dec.{eqb}
use borrow.Author.Tests.{ltb-true, lt-ltb, le-ltb, eq-eqb, ne_eqb}
use Rattle.words.specs.Choice.{pick}
use Rattle.words.proofs.ChoiceLaws.{pick_with}
use Rattle.words.proofs.StoreLaws.{length_part}
use Rattle.text.specs.Utf8.{first_bad, is_utf8}
use Rattle.key_order.proofs.CompareLaws.{same_equal, same_refl}
use Rattle.layout.specs.declared.refusal.Refusal.{Refusal}
use Rattle.layout.specs.declared.refusal.Refusal.TheVariants.{FragmentNotUtf8, ParentOutside, ParentsEndless}
use Rattle.layout.specs.declared.table.Table.{Table}
use Rattle.layout.specs.declared.item.Item.{Item}
use Rattle.layout.specs.Pointer.{open_pointer}
use Rattle.layout.specs.Item.{item_at, no_item}
use Rattle.layout.proofs.OpenLaws.{pointer_inside}
use Rattle.read_chain.specs.Chain.{fragment_of, parent_of, after_pointer, climb_from, Joined, join_step, key_of, names}

-- ---- a fragment

-- the stretch from an item's key start, as the code takes it
pub fragment_taken : (file : List ℕ) (item : Item) {start size : ℕ} → start ≡ item.key → size ≡ item.size
    → take (start + size - start) (drop start file) ≡ fragment_of file item
unfolding fragment_of
fragment_taken file item {start} {size} s z = rw (add-sub_cancel_left start size, s, z)

pub same_place : (file : List ℕ) (item : Item) {start size : ℕ} → start ≡ item.key → size ≡ item.size
    → open_pointer (length file) item.key (item.key + item.size) 1 ≡ open_pointer (length file) start (start + size) 1
same_place file item s z = rw (s, z)

-- a fragment that lies in the file has the item's key size
pub fragment_size : (file : List ℕ) (item : Item) → item.key + item.size ≤ length file → length (fragment_of file item) ≡ item.size
unfolding fragment_of
fragment_size file item l = length_part file item.key item.size l

-- ---- a step

-- the parent that an item names, test by test
module _ (count parent : ℕ) where
  pub parent_root : parent ≡ no_item → parent_of count parent ≡ Ok None
  unfolding parent_of pick
  parent_root root = rw (eq-eqb parent no_item root)

  module _ (some : parent ≡ no_item → ⊥) {at : ℕ} (is : at ≡ parent) where
    pub parent_up : at < count → parent_of count parent ≡ Ok (Some at)
    unfolding parent_of pick
    parent_up below = rw (ne_eqb parent no_item some, ← is, lt-ltb at count below)

    pub parent_outside : count ≤ at → parent_of count parent ≡ Err ParentOutside
    unfolding parent_of pick
    parent_outside past = rw (ne_eqb parent no_item some, ← is, le-ltb at count past)

-- what a step of an item tells: its fragment lies in the file, and its parent is an item
unfoldable pub StepFits : List ℕ → ℕ → Item → Result (Option ℕ) Refusal → Type 0
StepFits file count item (Ok None) = item.key + item.size ≤ length file
StepFits file count item (Ok (Some parent)) = (item.key + item.size ≤ length file) × (parent < count)
StepFits file count item (Err why) = Unit

parent_fits : (file : List ℕ) (count : ℕ) (item : Item) → item.key + item.size ≤ length file → StepFits file count item (parent_of count item.parent)
unfolding parent_of StepFits
parent_fits file count item l =
    pick_with (StepFits file count item) _ _ _ (λ e. l)
    (λ e. pick_with (StepFits file count item) _ _ _ (λ below. (l, ltb-true _ _ below)) (λ e. tt))

pub climb_fits : (file : List ℕ) (count : ℕ) (item : Item) → StepFits file count item (climb_from file count item)
unfolding climb_from StepFits after_pointer
climb_fits file count item = by_pointer (open_pointer (length file) item.key (item.key + item.size) 1) refl
  where
    by_pointer : (p : Result (Unit {0}) Refusal) → open_pointer (length file) item.key (item.key + item.size) 1 ≡ p
        → StepFits file count item (after_pointer p (pick (is_utf8 (fragment_of file item)) (parent_of count item.parent) (Err (FragmentNotUtf8 (first_bad (fragment_of file item))))))
    by_pointer (Ok _) e =
        pick_with (StepFits file count item) _ _ _ (λ _. parent_fits file count item (pointer_inside _ _ _ _ e).1) (λ _. tt)
    by_pointer (Err why) e = tt

-- a step that is not refused is the parent's, and the fragment lies in the file
pub record Climbs (file : List ℕ) (count : ℕ) (item : Item) (s : Result (Option ℕ) Refusal) : Type 0 where
  pub is : s ≡ parent_of count item.parent
  pub inside : item.key + item.size ≤ length file
  pub text : is_utf8 (fragment_of file item) ≡ true

pub climb_or : (file : List ℕ) (count : ℕ) (item : Item) → ((why : Refusal) → climb_from file count item ≡ Err why → ⊥)
    → Climbs file count item (climb_from file count item)
unfolding climb_from after_pointer
climb_or file count item = by_pointer (open_pointer (length file) item.key (item.key + item.size) 1) refl
  where
    P : Result (Option ℕ) Refusal → Type 0
    P s = ((why : Refusal) → s ≡ Err why → ⊥) → Climbs file count item s

    by_pointer : (p : Result (Unit {0}) Refusal) → open_pointer (length file) item.key (item.key + item.size) 1 ≡ p
        → P (after_pointer p (pick (is_utf8 (fragment_of file item)) (parent_of count item.parent) (Err (FragmentNotUtf8 (first_bad (fragment_of file item))))))
    by_pointer (Ok _) e =
        pick_with P _ _ _ (λ good n. record { is = refl; inside = (pointer_inside _ _ _ _ e).1; text = good }) (λ _ n. absurd (n (FragmentNotUtf8 (first_bad (fragment_of file item))) refl))
    by_pointer (Err why) e = λ n. absurd (n why refl)

-- the fragment of an item that goes on to its parent is a text
pub up_text : (file : List ℕ) (count : ℕ) (item : Item) {parent : ℕ} → climb_from file count item ≡ Ok (Some parent) → is_utf8 (fragment_of file item) ≡ true
up_text file count item {parent} e =
    (climb_or file count item (λ why r.
    let z : Ok (Some parent) ≡ Err why = sym e ∙ r in
    let y : ◌≡◌ {A = ℕ} 0 1 = cc in
    omega arith)).text

-- an item whose fragment opens and is UTF-8 goes on to its parent
pub climb_on : (file : List ℕ) (count : ℕ) (item : Item) → open_pointer (length file) item.key (item.key + item.size) 1 ≡ Ok tt
    → is_utf8 (fragment_of file item) ≡ true → climb_from file count item ≡ parent_of count item.parent
unfolding climb_from after_pointer pick
climb_on file count item opens good = simp (opens, good)

-- the step, test by test, with the fragment's offset and size as the code has them
module _ (file : List ℕ) (count : ℕ) (item : Item) {start size : ℕ} (s : start ≡ item.key) (z : size ≡ item.size) where
  pub climb_refused : {why : Refusal} → open_pointer (length file) start (start + size) 1 ≡ Err why → Err why ≡ climb_from file count item
  unfolding climb_from after_pointer
  climb_refused e = rw (same_place file item s z ∙ e)

  module _ (inside : open_pointer (length file) start (start + size) 1 ≡ Ok tt) where
    pub climb_inside : climb_from file count item ≡ pick (is_utf8 (fragment_of file item)) (parent_of count item.parent) (Err (FragmentNotUtf8 (first_bad (fragment_of file item))))
    unfolding climb_from after_pointer
    climb_inside = rw (same_place file item s z ∙ inside)

    -- the fragment is good to its end, or not
    module _ {bad : ℕ} (e : bad ≡ first_bad (take (start + size - start) (drop start file))) where
      is_text : is_utf8 (fragment_of file item) ≡ eqb bad size
      unfolding is_utf8
      is_text =
          let fits : item.key + item.size ≤ length file = omega (arith, (pointer_inside _ _ _ _ inside).1, s, z) in
          ap (λ (n : ℕ). eqb n (length (fragment_of file item))) (sym (e ∙ ap first_bad (fragment_taken file item s z))) ∙ ap (eqb bad) (fragment_size file item fits ∙ sym z)

      pub climb_text : bad ≡ size → climb_from file count item ≡ parent_of count item.parent
      unfolding pick
      climb_text whole = climb_inside ∙ rw (is_text ∙ eq-eqb bad size whole)

      pub climb_no_text : (bad ≡ size → ⊥) → Err (FragmentNotUtf8 bad) ≡ climb_from file count item
      unfolding pick
      climb_no_text cut =
          ap (λ (n : ℕ). Err (FragmentNotUtf8 n)) (e ∙ ap first_bad (fragment_taken file item s z)) ∙ sym (climb_inside ∙ rw (is_text ∙ ne_eqb bad size cut))

-- what `climb` needs
pub ruleset climbing = (pointer_inside, climb_text, climb_no_text)

-- ---- a key

-- one step of the definition, with steps left, and its end
pub key_turn : (file : List ℕ) (t : Table) (left index : ℕ) (item : Item) (s : Result (Option ℕ) Refusal) → 0 < left → item ≡ item_at file t index → climb_from file t.count item ≡ s
    → key_of file t left index ≡ join_step s (fragment_of file item) (λ parent. key_of file t (left - 1) parent)
unfolding key_of
key_turn file t left index item s h is e =
    let one : left ≡ suc (left - 1) = omega arith in
    ap (λ (n : ℕ). key_of file t n index) one ∙ rw (← is, e)

pub key_over : (file : List ℕ) (t : Table) (left index : ℕ) → left ≤ 0 → key_of file t left index ≡ Joined.broken ParentsEndless
unfolding key_of
key_over file t left index h = let none : left ≡ 0 = omega arith in rw none

-- a chain names just the key that it joins
pub names-joined : (j : Joined) (key : List ℕ) → names j key ≡ true → j ≡ Joined.joined key
unfolding names
names-joined (Joined.joined k) key e = ap Joined.joined (same_equal k key e)
names-joined (Joined.broken why) key e = cc

pub joined-names : (j : Joined) (key : List ℕ) → j ≡ Joined.joined key → names j key ≡ true
unfolding names
joined-names j key e = ap (λ (x : Joined). names x key) e ∙ same_refl key
