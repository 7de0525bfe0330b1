-- The words of a slot and of a numbered table, as the code makes them.
use mathlib.Core.Path.{◌≡◌, refl, sym, ap, ◌∙◌}
use mathlib.Core.Bool.{Bool, true, false, not}
use mathlib.Core.List.{List}
use Prim.Native.Nat.{ℕ, ◌+◌, ◌-◌, ◌*◌, ◌≤◌, ◌<◌}
use native.Mathlib.Omega.{arith}
use borrow.Author.Count.{below_more}
use borrow.Author.Tests.{eq-eqb, ne_eqb}
use lib.Dec.{eqb}
use lib.ListN.{length, get_or, set}
use lib.Seq.{get_or-set_same, get_or-set_other}
use Rattle.words.proofs.ChoiceLaws.{pick_true, pick-false, both}
use Rattle.layout.specs.Item.{no_item}
use Rattle.layout.specs.Kind.{container_kind}
use Rattle.build_memory.specs.Memory.{item_table, key_size, item_parent, item_kind, value_start, value_size, item_guest}
use Rattle.write_parts.proofs.KindLaws.{kind_value, kind_table, kind_container}
use Rattle.write_parts.specs.Numbered.{first_slot}
use Rattle.write_numbers.specs.Roster.{indices_from, item_index}
use Rattle.write_slots.specs.NumberedAs.{child_test, skipped, parent_word, slot_of, start_of, size_of}

-- ---- one word more

pub set_behind : (f : ℕ → ℕ) (l : List ℕ) (at p v : ℕ) → v ≡ f p → at + p < length l → ((q : ℕ) → q < p → get_or l (at + q) 0 ≡ f q) → (q : ℕ) → q < p + 1
    → get_or (set l (at + p) v) (at + q) 0 ≡ f q
set_behind f l at p v is h inv =
    below_more (λ q. get_or (set l (at + p) v) (at + q) 0 ≡ f q) p
    (λ q less. get_or-set_other l (at + p) (at + q) v 0 (λ (e : at + q ≡ at + p). omega arith) ∙ inv q less)
    (get_or-set_same l (at + p) v 0 h ∙ is)

pub set_past : (l m : List ℕ) (at p v : ℕ) → ((k : ℕ) → at + p ≤ k → get_or l k 0 ≡ get_or m k 0) → (k : ℕ) → at + (p + 1) ≤ k → get_or (set l (at + p) v) k 0 ≡ get_or m k 0
set_past l m at p v inv k h = get_or-set_other l (at + p) k v 0 (λ (e : k ≡ at + p). omega arith) ∙ inv k (omega arith)

pub set_apart : (l m : List ℕ) (at p v : ℕ) → ((k : ℕ) → k < at → get_or l k 0 ≡ get_or m k 0) → (k : ℕ) → k < at → get_or (set l (at + p) v) k 0 ≡ get_or m k 0
set_apart l m at p v inv k h = get_or-set_other l (at + p) k v 0 (λ (e : k ≡ at + p). omega arith) ∙ inv k h

-- ---- children

pub index_read : (roster : List ℕ) (c : ℕ) → get_or roster (indices_from + c) 0 ≡ item_index roster c
unfolding item_index
index_read roster c = refl

module _ (ws : List ℕ) (i : ℕ) where
  pub child_none : (parent : ℕ) → parent ≡ item_parent ws i → parent ≡ 0 → false ≡ child_test ws i
  unfolding child_test
  child_none parent is e = simp (← is, eq-eqb _ _ e)

  pub child_own : (parent kind : ℕ) → parent ≡ item_parent ws i → (parent ≡ 0 → ⊥) → kind ≡ item_kind ws (parent - 1) → eqb kind container_kind ≡ child_test ws i
  unfolding child_test
  child_own parent kind is n ek = simp (← is, ne_eqb _ _ n, ek)

  pub child_some : child_test ws i ≡ true → item_parent ws i ≡ 0 → ⊥
  unfolding child_test
  child_some e z =
      let g : eqb (item_parent ws i) 0 ≡ true = eq-eqb _ _ z in
      let f : false ≡ true = rw g at ((both (not (eqb (item_parent ws i) 0)) _ e).0) in cc

  pub skip_none : child_test ws i ≡ false → 0 ≡ skipped ws i
  unfolding skipped
  skip_none e = sym (pick-false (key_size ws (item_parent ws i - 1)) 0 e)

  pub skip_own : child_test ws i ≡ true → (parent size : ℕ) → parent ≡ item_parent ws i → size ≡ key_size ws (parent - 1) → size ≡ skipped ws i
  unfolding skipped
  skip_own e parent size is es = es ∙ ap (λ (p : ℕ). key_size ws (p - 1)) is ∙ sym (pick_true (key_size ws (item_parent ws i - 1)) 0 e)

  pub word_none : (roster : List ℕ) → child_test ws i ≡ false → no_item ≡ parent_word ws roster i
  unfolding parent_word
  word_none roster e = sym (pick-false (item_index roster (item_parent ws i - 1)) no_item e)

  pub word_own : (roster : List ℕ) → child_test ws i ≡ true → (parent : ℕ) → parent ≡ item_parent ws i → get_or roster (1152 + (parent - 1)) 0 ≡ parent_word ws roster i
  unfolding parent_word item_index
  word_own roster e parent is = ap (λ (p : ℕ). get_or roster (1152 + (p - 1)) 0) is ∙ sym (pick_true (get_or roster (1152 + (item_parent ws i - 1)) 0) no_item e)

-- ---- a test that was turned round

pub turned_on : (q r : Bool) → q ≡ r → q ≡ true → r ≡ true
turned_on q r e f = sym e ∙ f

pub turned_off : (q r : Bool) → q ≡ r → q ≡ false → r ≡ false
turned_off q r e f = sym e ∙ f

-- ---- the slot of an item, and what depends on its kind

pub slot_own : (ws roster : List ℕ) (i t : ℕ) → t ≡ item_table ws i → get_or roster (2 * t) 0 + get_or roster (1152 + i) 0 ≡ slot_of ws roster i
unfolding slot_of first_slot item_index
slot_own ws roster i t e = rw e

module _ (ws firsts : List ℕ) (i kind : ℕ) (is : kind ≡ item_kind ws i) where
  pub start-value : kind ≡ 118 → (w : ℕ) → w ≡ value_start ws i → w ≡ start_of ws firsts i
  unfolding start_of
  start-value e w f = f ∙ sym (kind_value (item_kind ws i) (value_start ws i) (item_guest ws i) (get_or firsts (i + 1) 0) (sym is ∙ e))

  pub start_guest : kind ≡ 72 → (w : ℕ) → w ≡ item_guest ws i → w ≡ start_of ws firsts i
  unfolding start_of
  start_guest e w f = f ∙ sym (kind_table (item_kind ws i) (value_start ws i) (item_guest ws i) (get_or firsts (i + 1) 0) (sym is ∙ e))

  pub start_child : (kind ≡ 118 → ⊥) → (kind ≡ 72 → ⊥) → get_or firsts (i + 1) 0 ≡ start_of ws firsts i
  unfolding start_of
  start_child n m = sym (kind_container (item_kind ws i) (value_start ws i) (item_guest ws i) (get_or firsts (i + 1) 0) (λ e. n (is ∙ e)) (λ e. m (is ∙ e)))

  pub size_value : kind ≡ 118 → (w : ℕ) → w ≡ value_size ws i → w ≡ size_of ws firsts i
  unfolding size_of
  size_value e w f = f ∙ sym (kind_value (item_kind ws i) (value_size ws i) 0 (get_or firsts (i + 2) 0 - get_or firsts (i + 1) 0) (sym is ∙ e))

  pub size_guest : kind ≡ 72 → 0 ≡ size_of ws firsts i
  unfolding size_of
  size_guest e = sym (kind_table (item_kind ws i) (value_size ws i) 0 (get_or firsts (i + 2) 0 - get_or firsts (i + 1) 0) (sym is ∙ e))

  pub size_child : (kind ≡ 118 → ⊥) → (kind ≡ 72 → ⊥) → get_or firsts (i + 2) 0 - get_or firsts (i + 1) 0 ≡ size_of ws firsts i
  unfolding size_of
  size_child n m = sym (kind_container (item_kind ws i) (value_size ws i) 0 (get_or firsts (i + 2) 0 - get_or firsts (i + 1) 0) (λ e. n (is ∙ e)) (λ e. m (is ∙ e)))
