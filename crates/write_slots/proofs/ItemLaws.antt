-- An item of a memory as its slot has it, and as the table that is meant has it.
use mathlib.Core.Path.{◌≡◌, refl, sym, ap, ◌∙◌}
use mathlib.Core.Bool.{true, false}
use mathlib.Core.Logic.{◌⊎◌, inl, inr, ⊎_elim}
use mathlib.Core.List.{List, [], ◌∷◌, ◌++◌, append-nil}
use Prim.Native.Nat.{ℕ, zero, suc, ◌+◌, ◌-◌, ◌≤◌, ◌<◌}
use native.Mathlib.Omega.{arith}
use borrow.Author.Tests.{eq-eqb, ne_eqb}
use lib.Dec.{eqb}
use lib.ListN.{length, get_or, take, drop, length-append, get_or-append}
use lib.Seq.{take-nil, get_or_at, take-suc, take_all, drop-drop}
use Rattle.words.specs.Choice.{pick}
use Rattle.words.specs.Store.{part}
use Rattle.key_hash.specs.declared.hash.Form.{Form}
use Rattle.key_hash.specs.Hash.{hash_by, rule_of}
use Rattle.words.proofs.ChoiceLaws.{pick_true, pick-false, eq_or_ne, lt_or_ge}
use Rattle.layout.specs.Kind.{kind_byte, value_kind, table_kind, container_kind}
use Rattle.layout.specs.Item.{no_item}
use Rattle.model.specs.Table.{Content, Rows, kind_of, is_container, is_child, fragment_at}
use Rattle.build_memory.specs.Memory.{item_total, item_table, key_start, key_size, item_parent, item_kind, value_start, value_size, item_guest, key_of}
use Rattle.build_memory.specs.Meaning.{content_of}
use Rattle.image.specs.Index.{laid_index}
use Rattle.image.specs.Plan.{word, words_of}
use Rattle.image.specs.Image.{parent_index, child_words}
use Rattle.image.proofs.ChildLaws.{words_append}
use Rattle.write_parts.specs.Numbered.{by_kind}
use Rattle.write_parts.proofs.KindLaws.{kind_value, kind_table, kind_container}
use Rattle.write_order.specs.Items.{hash_for}
use Rattle.write_order.proofs.ItemLaws.{hash_for_lem}
use Rattle.write_numbers.specs.Roster.{state_of, item_index, Rostered}
use Rattle.write_numbers.proofs.StateLaws.{state_key}
use Rattle.build_memory.proofs.MeaningLaws.{key_length}
use Rattle.write_slots.specs.NumberedAs.{child_items, child_test, skipped, parent_word}
use Rattle.write_slots.proofs.StateLaws.{Right, content_is, above_is, content_past}
use Rattle.write_slots.proofs.SlotLaws.{child_none, child_own, child_some, skip_none, skip_own}
use Rattle.write_slots.proofs.SiblingLaws.{child_items_more, child_items_miss}
use Rattle.write_slots.proofs.RosterLaws.{by_child}

-- ---- what an item holds, by its kind

module _ (ws ar : List ℕ) (i : ℕ) where
  pub content_value : item_kind ws i ≡ value_kind → content_of ws ar i ≡ Content.bytes (part ar (value_start ws i) (value_size ws i))
  unfolding content_of pick
  content_value e = rw (eq-eqb _ _ e)

  pub content_table : item_kind ws i ≡ table_kind → content_of ws ar i ≡ Content.nested (item_guest ws i)
  unfolding content_of pick
  content_table e = rw (ne_eqb (item_kind ws i) 118 (λ f. omega arith), eq-eqb (item_kind ws i) 72 e)

  pub content_container : item_kind ws i ≡ container_kind → content_of ws ar i ≡ Content.container
  unfolding content_of pick
  content_container e = rw (ne_eqb (item_kind ws i) 118 (λ f. omega arith), ne_eqb (item_kind ws i) 72 (λ f. omega arith))

-- ---- the indices of children as words

no_words : (rule : ℕ → ℕ) (table : Rows) (l : List ℕ) → words_of (λ j. laid_index rule table (get_or l j 0)) 0 ≡ child_words rule table (take 0 l)
unfolding words_of child_words
no_words rule table l = refl

one_word : (rule : ℕ → ℕ) (table : Rows) (c : ℕ) → child_words rule table (c ∷ []) ≡ word (laid_index rule table c)
unfolding child_words
one_word rule table c = append-nil (word (laid_index rule table c))

more_words : (rule : ℕ → ℕ) (table : Rows) (l : List ℕ) (n : ℕ) → n < length l → words_of (λ j. laid_index rule table (get_or l j 0)) n ≡ child_words rule table (take n l)
    → words_of (λ j. laid_index rule table (get_or l j 0)) (suc n) ≡ child_words rule table (take (suc n) l)
unfolding words_of
more_words rule table l n h e = rw (take-suc l n 0 h, words_append, one_word) (ap (λ (x : List ℕ). x ++ word (laid_index rule table (get_or l n 0))) e)

pub children_words : (rule : ℕ → ℕ) (table : Rows) (l : List ℕ) → words_of (λ j. laid_index rule table (get_or l j 0)) (length l) ≡ child_words rule table l
children_words rule table l = first (length l) (omega arith) ∙ ap (child_words rule table) (take_all (length l) l (omega arith))
  where
    first : (n : ℕ) → n ≤ length l → words_of (λ j. laid_index rule table (get_or l j 0)) n ≡ child_words rule table (take n l)
    first zero h = no_words rule table l
    first (suc n) h = more_words rule table l n h (first n (omega arith))

-- ---- a child has the parent word that it is listed by

child_items_hit : (ws : List ℕ) (b n : ℕ) → item_parent ws n ≡ b → child_items ws b (suc n) ≡ child_items ws b n ++ (n ∷ [])
child_items_hit ws b n e = child_items_more ws b n ∙ ap (λ (x : List ℕ). child_items ws b n ++ x) (pick_true (n ∷ []) [] (eq-eqb _ _ e))

module _ (P : ℕ → Type 0) (ws : List ℕ) (b : ℕ) where
  no_child_items : (j : ℕ) → j < length (child_items ws b 0) → P (get_or (child_items ws b 0) j 0)
  unfolding child_items
  no_child_items j h = absurd (omega arith)

  more_child_items : (n : ℕ) → item_parent ws n ≡ b → P n → ((k : ℕ) → k < length (child_items ws b n) → P (get_or (child_items ws b n) k 0)) → (j : ℕ) → j < length (child_items ws b (suc n))
      → P (get_or (child_items ws b (suc n)) j 0)
  more_child_items n e own rest j h =
      let g : j < length (child_items ws b n ++ (n ∷ [])) = rw (child_items_hit ws b n e) at h in
      rw (child_items_hit ws b n e)
      (⊎_elim
      (λ less. rw (get_or-append (child_items ws b n) (n ∷ []) 0 j less) (rest j less))
      (λ more. let q : j ≡ length (child_items ws b n) = omega (arith, length-append (child_items ws b n) (n ∷ [])) in rw (get_or_at (child_items ws b n) n [] 0 j (sym q)) own)
      (lt_or_ge j (length (child_items ws b n))))

  -- what holds of every item that has the parent word holds of every one listed
  child_items-all : (n : ℕ) → ((c : ℕ) → c < n → item_parent ws c ≡ b → P c) → (j : ℕ) → j < length (child_items ws b n) → P (get_or (child_items ws b n) j 0)
  child_items-all zero all j h = no_child_items j h
  child_items-all (suc n) all j h =
      ⊎_elim
      (λ e. more_child_items n e (all n (omega arith) e) (child_items-all n (λ c l. all c (omega arith))) j h)
      (λ ne. rw (child_items_miss ws b n ne) (child_items-all n (λ c l. all c (omega arith)) j (rw (child_items_miss ws b n ne) at h)))
      (eq_or_ne (item_parent ws n) b)

drop-part : (l : List ℕ) (at size n : ℕ) → drop n (part l at size) ≡ part l (at + n) (size - n)
drop-part l at size n = drop-take n size (drop at l) ∙ ap (take (size - n)) (drop-drop n at l)
  where
    drop-take : (n m : ℕ) (l : List ℕ) → drop n (take m l) ≡ take (m - n) (drop n l)
    drop-take zero m l = let e : m - 0 ≡ m = omega arith in rw e
    drop-take (suc n) zero l = let e : 0 - suc n ≡ 0 = omega arith in rw e
    drop-take (suc n) (suc m) [] = sym (take-nil (suc m - suc n))
    drop-take (suc n) (suc m) (x ∷ l) = let e : suc m - suc n ≡ m - n = omega arith in rw e (drop-take n m l)

module _ {rule : ℕ → ℕ} (ws ar roster : List ℕ) (r : Right ws ar) (ro : Rostered rule ws ar roster) where
  -- ---- children

  holds_children : (t j : ℕ) → j < item_total ws → is_container ((state_of ws ar t).content j) ≡ eqb (item_kind ws j) container_kind
  holds_children t j l =
      ap is_container (content_is ws ar t j l)
      ∙ ⊎_elim
      (λ k. ap is_container (content_value ws ar j k) ∙ sym (ne_eqb (item_kind ws j) 76 (λ f. omega arith)))
      (λ m. ⊎_elim
      (λ k. ap is_container (content_table ws ar j k) ∙ sym (ne_eqb (item_kind ws j) 76 (λ f. omega arith)))
      (λ k. ap is_container (content_container ws ar j k) ∙ sym (eq-eqb (item_kind ws j) 76 k))
      m)
      (r.kind j l)

  module _ (t i : ℕ) (l : i < item_total ws) (own : item_table ws i ≡ t) where
    above_none : item_parent ws i ≡ 0 → (state_of ws ar t).above i ≡ no_item
    above_none z = above_is ws ar t i l ∙ pick_true no_item (item_parent ws i - 1) (eq-eqb _ _ z)

    above_some : (item_parent ws i ≡ 0 → ⊥) → (state_of ws ar t).above i ≡ item_parent ws i - 1
    above_some n = above_is ws ar t i l ∙ pick-false no_item (item_parent ws i - 1) (ne_eqb _ _ n)

    above_in : (item_parent ws i ≡ 0 → ⊥) → item_parent ws i - 1 < item_total ws
    above_in n = omega (arith, (r.parent i l n).earlier)

    child_is : is_child (state_of ws ar t) i ≡ child_test ws i
    unfolding is_child
    child_is =
        ⊎_elim
        (λ z. ap (λ (j : ℕ). is_container ((state_of ws ar t).content j)) (above_none z)
        ∙ ap is_container (content_past ws ar t no_item (omega (arith, r.valid.items))) ∙ child_none ws i (item_parent ws i) refl z)
        (λ n. ap (λ (j : ℕ). is_container ((state_of ws ar t).content j)) (above_some n)
        ∙ holds_children t (item_parent ws i - 1) (above_in n) ∙ child_own ws i (item_parent ws i) (item_kind ws (item_parent ws i - 1)) refl n refl)
        (eq_or_ne (item_parent ws i) 0)

    -- ---- the fields of its slot

    pub hash_is : (form : Form) → hash_for form ws ar i ≡ hash_by (rule_of form) ((state_of ws ar t).key i)
    hash_is form = hash_for_lem ws ar i form (r.hash i l) refl ∙ ap (hash_by (rule_of form)) (sym (state_key ws ar t i l))

    pub parent_is : parent_word ws roster i ≡ parent_index rule (state_of ws ar t) i
    unfolding parent_word parent_index
    parent_is = rw child_is (by (by_child ws i))
      where
        number : child_test ws i ≡ true → item_index roster (item_parent ws i - 1) ≡ laid_index rule (state_of ws ar t) ((state_of ws ar t).above i)
        number e =
            let n = child_some ws i e in
            ro.indices (item_parent ws i - 1) (above_in n) ∙ ap (λ (u : ℕ). laid_index rule (state_of ws ar u) (item_parent ws i - 1)) ((r.parent i l n).same ∙ own)
            ∙ ap (laid_index rule (state_of ws ar t)) (sym (above_some n))

        by : (child_test ws i ≡ true) ⊎ (child_test ws i ≡ false)
            → pick (child_test ws i) (item_index roster (item_parent ws i - 1)) no_item ≡ pick (child_test ws i) (laid_index rule (state_of ws ar t) ((state_of ws ar t).above i)) no_item
        by (inl e) = pick_true (item_index roster (item_parent ws i - 1)) no_item e ∙ number e ∙ sym (pick_true (laid_index rule (state_of ws ar t) ((state_of ws ar t).above i)) no_item e)
        by (inr e) = pick-false (item_index roster (item_parent ws i - 1)) no_item e ∙ sym (pick-false (laid_index rule (state_of ws ar t) ((state_of ws ar t).above i)) no_item e)

    whole_key : part ar (key_start ws i) (key_size ws i) ≡ (state_of ws ar t).key i
    unfolding key_of
    whole_key = sym (state_key ws ar t i l)

    pub fragment_is : part ar (key_start ws i + skipped ws i) (key_size ws i - skipped ws i) ≡ fragment_at (state_of ws ar t) i
    unfolding fragment_at
    fragment_is = rw child_is (by (by_child ws i))
      where
        cut : child_test ws i ≡ true → length ((state_of ws ar t).key ((state_of ws ar t).above i)) ≡ skipped ws i
        cut e =
            let n = child_some ws i e in
            ap (λ (j : ℕ). length ((state_of ws ar t).key j)) (above_some n) ∙ ap length (state_key ws ar t (item_parent ws i - 1) (above_in n))
            ∙ key_length ws ar (item_parent ws i - 1) (r.key (item_parent ws i - 1) (above_in n))
            ∙ skip_own ws i e (item_parent ws i) (key_size ws (item_parent ws i - 1)) refl refl

        by : (child_test ws i ≡ true) ⊎ (child_test ws i ≡ false)
            → part ar (key_start ws i + skipped ws i) (key_size ws i - skipped ws i)
            ≡ pick (child_test ws i) (drop (length ((state_of ws ar t).key ((state_of ws ar t).above i))) ((state_of ws ar t).key i)) ((state_of ws ar t).key i)
        by (inl e) =
            sym (pick_true (drop (length ((state_of ws ar t).key ((state_of ws ar t).above i))) ((state_of ws ar t).key i)) ((state_of ws ar t).key i) e
            ∙ ap (λ (n : ℕ). drop n ((state_of ws ar t).key i)) (cut e) ∙ ap (drop (skipped ws i)) (sym whole_key)
            ∙ drop-part ar (key_start ws i) (key_size ws i) (skipped ws i))
        by (inr e) =
            let z : skipped ws i ≡ 0 = sym (skip_none ws i e) in
            let a : key_start ws i + skipped ws i ≡ key_start ws i = omega arith in
            let b : key_size ws i - skipped ws i ≡ key_size ws i = omega arith in
            rw (a, b) (whole_key ∙ sym (pick-false (drop (length ((state_of ws ar t).key ((state_of ws ar t).above i))) ((state_of ws ar t).key i)) ((state_of ws ar t).key i) e))

    pub kind_is : item_kind ws i ≡ kind_byte (kind_of ((state_of ws ar t).content i))
    kind_is =
        ⊎_elim
        (λ k. k ∙ ap (λ (x : Content). kind_byte (kind_of x)) (sym (content_is ws ar t i l ∙ content_value ws ar i k)))
        (λ m. ⊎_elim
        (λ k. k ∙ ap (λ (x : Content). kind_byte (kind_of x)) (sym (content_is ws ar t i l ∙ content_table ws ar i k)))
        (λ k. k ∙ ap (λ (x : Content). kind_byte (kind_of x)) (sym (content_is ws ar t i l ∙ content_container ws ar i k)))
        m)
        (r.kind i l)

    -- a choice by kind, and what depends on the content
    pub by_content : {A : Type 0} (f : Content → A) (v g c : A)
        → (item_kind ws i ≡ value_kind → v ≡ f (Content.bytes (part ar (value_start ws i) (value_size ws i))))
        → (item_kind ws i ≡ table_kind → g ≡ f (Content.nested (item_guest ws i)))
        → (item_kind ws i ≡ container_kind → c ≡ f Content.container)
        → by_kind (item_kind ws i) v g c ≡ f ((state_of ws ar t).content i)
    by_content f v g c x y z =
        ⊎_elim
        (λ k. kind_value (item_kind ws i) v g c k ∙ x k ∙ ap f (sym (content_is ws ar t i l ∙ content_value ws ar i k)))
        (λ m. ⊎_elim
        (λ k. kind_table (item_kind ws i) v g c k ∙ y k ∙ ap f (sym (content_is ws ar t i l ∙ content_table ws ar i k)))
        (λ k. kind_container (item_kind ws i) v g c (λ e. omega arith) (λ e. omega arith) ∙ z k ∙ ap f (sym (content_is ws ar t i l ∙ content_container ws ar i k)))
        m)
        (r.kind i l)

    -- ---- its children are items of the table

    module _ (j : ℕ) (less : j < length (child_items ws (i + 1) (item_total ws))) where
      kid_parent : item_parent ws (get_or (child_items ws (i + 1) (item_total ws)) j 0) ≡ i + 1
      kid_parent = child_items-all (λ c. item_parent ws c ≡ i + 1) ws (i + 1) (item_total ws) (λ c l e. e) j less

      pub kid_in : get_or (child_items ws (i + 1) (item_total ws)) j 0 < item_total ws
      kid_in = child_items-all (λ c. c < item_total ws) ws (i + 1) (item_total ws) (λ c l e. l) j less

      pub kid_table : item_table ws (get_or (child_items ws (i + 1) (item_total ws)) j 0) ≡ t
      kid_table =
          let c = get_or (child_items ws (i + 1) (item_total ws)) j 0 in
          let q : item_parent ws c - 1 ≡ i = omega (arith, kid_parent) in
          sym (r.parent c kid_in (λ z. omega (arith, kid_parent))).same ∙ ap (item_table ws) q ∙ own
