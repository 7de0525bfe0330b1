-- A numbered table with its head, its child words and its slots is the numbered table of the memory.
use mathlib.Core.Path.{◌≡◌, refl, sym, ap, ◌∙◌}
use mathlib.Core.Logic.{⊎_elim}
use mathlib.Core.List.{List}
use Prim.Native.Nat.{ℕ, ◌+◌, ◌-◌, ◌*◌, ◌≤◌, ◌<◌, ◌^◌}
use native.Mathlib.Omega.{arith}
use lib.ListN.{length, get_or}
use Rattle.words.specs.Store.{part}
use Rattle.key_hash.specs.declared.hash.Form.{Form}
use Rattle.key_hash.specs.Hash.{rule_of}
use Rattle.words.proofs.StoreLaws.{length_part}
use Rattle.model.specs.Table.{Content}
use Rattle.layout.specs.Kind.{container_kind}
use Rattle.build_memory.specs.Memory.{item_total, item_table, key_start, key_size, item_kind, value_start, value_size, item_guest}
use Rattle.image.specs.Index.{item_of, laid_index}
use Rattle.layout.specs.Sizes.{chunk_size}
use Rattle.image.specs.Plan.{words_of}
use Rattle.image.specs.Fits.{SamePlan}
use Rattle.image.specs.Image.{align_of, children_of, child_words, value_of, covers_of, plan_of}
use Rattle.image.proofs.PlanLaws.{words_same}
use Rattle.words.proofs.ChoiceLaws.{lt_or_ge}
use Rattle.write_parts.specs.Numbered.{first_slot, slot_count, slot_word, slot_hash, slot_parent, slot_fragment, slot_fragment_size, slot_kind, slot_value_word, slot_value_size, slot_bucket, child_word, slot_value, numbered_plan, NumberedFits, slot_cover, children_from, slots_from}
use Rattle.write_order.specs.Items.{hash_for}
use Rattle.write_numbers.specs.Roster.{state_of, item_index, bucket_word, Rostered}
use Rattle.layout.specs.Limits.{most_items, most_tables}
use Rattle.write_slots.specs.NumberedAs.{child_items, from_last, skipped, parent_word, slot_of, start_of, size_of, front_words, back_words, slot_words, Siblings, NumberedStart, NumberedChildren, NumberedSlots, Firsts, NumberedAs}
use Rattle.write_slots.proofs.StateLaws.{Right}
use Rattle.write_slots.proofs.SlotLaws.{start-value, start_guest, start_child, size_value, size_child}
use Rattle.write_slots.proofs.SiblingLaws.{children_child_items}
use Rattle.write_slots.proofs.RosterLaws.{index_few, item_in, item_of_lem, slot_of_lem}
use Rattle.write_slots.proofs.TurnLaws.{start_in, start_out}
use Rattle.write_slots.proofs.ItemLaws.{children_words, hash_is, parent_is, fragment_is, kind_is, by_content, kid_in, kid_table}

pub siblings_firsts : (ws order firsts : List ℕ) → item_total ws ≤ most_items → Siblings ws order firsts → Firsts firsts
siblings_firsts ws order firsts few k = record { wide = k.wide; up = λ i h. omega (arith, k.next i h); few = λ i h. omega (arith, k.few i h) }

module _ (form : Form) (ws ar roster order firsts a b numbered : List ℕ) (r : Right ws ar) (ro : Rostered (rule_of form) ws ar roster) (siblings : Siblings ws order firsts)
    (st : NumberedStart roster a) (ch : NumberedChildren ws roster order a b) (sl : NumberedSlots form ws ar roster firsts b numbered (item_total ws)) where
  head_is : (k : ℕ) → k < slots_from → get_or numbered k 0 ≡ get_or roster k 0
  head_is k h = sl.head k h ∙ ch.kept k (omega arith) ∙ st.is k (omega arith) ∙ sym (start_in roster k h)

  first_is : (t : ℕ) → t < most_tables → first_slot numbered t ≡ first_slot roster t
  unfolding first_slot
  first_is t h = head_is (2 * t) (omega arith)

  count_is : (t : ℕ) → t < most_tables → slot_count numbered t ≡ slot_count roster t
  unfolding slot_count
  count_is t h = head_is (2 * t + 1) (omega arith)

  members_is : (t : ℕ) → t < most_tables → slot_count numbered t ≡ length (state_of ws ar t).members
  members_is t h = count_is t h ∙ ro.counts t h

  child_is : (j : ℕ) → j < item_total ws → child_word numbered j ≡ item_index roster (from_last ws (get_or order j 0))
  unfolding child_word
  child_is j h = sl.tail (children_from + j) (omega arith) ∙ child_before
    where
      child_before : get_or b (children_from + j) 0 ≡ item_index roster (from_last ws (get_or order j 0))
      child_before = ch.is j h

  child_none : (j : ℕ) → item_total ws ≤ j → j < most_items → child_word numbered j ≡ 0
  unfolding child_word
  child_none j g h =
      sl.tail (children_from + j) (omega arith) ∙ ch.rest (children_from + j) (omega arith) ∙ st.is (children_from + j) (omega arith) ∙ sym (start_out roster (children_from + j) (omega arith))

  child_few : (j : ℕ) → j < most_items → child_word numbered j < 2 ^ 32
  child_few j h =
      ⊎_elim
      (λ l. omega (arith, child_is j l, index_few ws ar roster r ro (from_last ws (get_or order j 0)) (omega arith)))
      (λ g. omega (arith, child_none j g h))
      (lt_or_ge j (item_total ws))

  numbered_fits : NumberedFits numbered ar
  numbered_fits = record {
    long = sl.long ∙ ch.long ∙ st.long;
    tables = λ t h. omega (arith, first_is t h, count_is t h, ro.inside t h);
    slots = sl.fits;
    children = child_few;
  }

  -- the words of a slot, by the item that it is of
  module _ (s i : ℕ) (l : i < item_total ws) (at_slot : slot_of ws roster i ≡ s) where
    word_is : (which : ℕ) → which < 8 → slot_word numbered s which ≡ get_or (slot_words ws roster firsts form ar i) which 0
    word_is which w = ap (λ (u : ℕ). slot_word numbered u which) (sym at_slot) ∙ sl.is i l which w

    w0 : slot_hash numbered s ≡ hash_for form ws ar i
    unfolding slot_words front_words back_words
    w0 = word_is 0 (omega arith)

    w1 : slot_parent numbered s ≡ parent_word ws roster i
    unfolding slot_words front_words back_words
    w1 = word_is 1 (omega arith)

    w2 : slot_fragment numbered s ≡ key_start ws i + skipped ws i
    unfolding slot_words front_words back_words
    w2 = word_is 2 (omega arith)

    w3 : slot_fragment_size numbered s ≡ key_size ws i - skipped ws i
    unfolding slot_words front_words back_words
    w3 = word_is 3 (omega arith)

    w4 : slot_kind numbered s ≡ item_kind ws i
    unfolding slot_words front_words back_words
    w4 = word_is 4 (omega arith)

    w5 : slot_value_word numbered s ≡ start_of ws firsts i
    unfolding slot_words front_words back_words
    w5 = word_is 5 (omega arith)

    w6 : slot_value_size numbered s ≡ size_of ws firsts i
    unfolding slot_words front_words back_words
    w6 = word_is 6 (omega arith)

    w7 : slot_bucket numbered s ≡ bucket_word roster s
    unfolding slot_words front_words back_words
    w7 = word_is 7 (omega arith) ∙ ap (bucket_word roster) at_slot

    module _ (t : ℕ) (own : item_table ws i ≡ t) where
      inside : i < most_items
      inside = omega (arith, r.valid.items)

      siblings_start : item_kind ws i ≡ container_kind → start_of ws firsts i ≡ get_or firsts (i + 1) 0
      siblings_start e = sym (start_child ws firsts i (item_kind ws i) refl (λ q. omega arith) (λ q. omega arith))

      siblings_size : item_kind ws i ≡ container_kind → size_of ws firsts i ≡ length (child_items ws (i + 1) (item_total ws))
      siblings_size e = sym (size_child ws firsts i (item_kind ws i) refl (λ q. omega arith) (λ q. omega arith)) ∙ omega (arith, siblings.next i inside)

      kid_word : (j : ℕ) → j < length (child_items ws (i + 1) (item_total ws)) → child_word numbered (get_or firsts (i + 1) 0 + j) ≡ laid_index (rule_of form) (state_of ws ar t) (get_or (child_items ws (i + 1) (item_total ws)) j 0)
      kid_word j h =
          let c = get_or (child_items ws (i + 1) (item_total ws)) j 0 in
          let below : c < item_total ws = kid_in ws ar roster r ro t i l own j h in
          child_is (get_or firsts (i + 1) 0 + j) (omega (arith, siblings.next i inside, siblings.few i inside))
          ∙ ap (item_index roster) (siblings.child i j inside h) ∙ ro.indices c below
          ∙ ap (λ (u : ℕ). laid_index (rule_of form) (state_of ws ar u) c) (kid_table ws ar roster r ro t i l own j h)

      child_items_words : words_of (λ j. child_word numbered (get_or firsts (i + 1) 0 + j)) (length (child_items ws (i + 1) (item_total ws))) ≡ child_words (rule_of form) (state_of ws ar t) (children_of (state_of ws ar t) i)
      child_items_words =
          words_same (λ j. child_word numbered (get_or firsts (i + 1) 0 + j)) (λ j. laid_index (rule_of form) (state_of ws ar t) (get_or (child_items ws (i + 1) (item_total ws)) j 0)) (length (child_items ws (i + 1) (item_total ws))) kid_word
          ∙ children_words (rule_of form) (state_of ws ar t) (child_items ws (i + 1) (item_total ws)) ∙ ap (child_words (rule_of form) (state_of ws ar t)) (sym (children_child_items ws ar r t i l own))

      value_is : (filter : ℕ) (inner : ℕ → ℕ → List ℕ) (at : ℕ) → slot_value inner numbered ar s at ≡ value_of (rule_of form) filter inner (state_of ws ar) (state_of ws ar t) i ((state_of ws ar t).content i) at
      unfolding slot_value value_of
      value_is filter inner at =
          rw (w4, w5, w6)
          (by_content ws ar roster r ro t i l own (λ (x : Content). value_of (rule_of form) filter inner (state_of ws ar) (state_of ws ar t) i x at)
          (part ar (start_of ws firsts i) (size_of ws firsts i)) (inner (start_of ws firsts i) at) (words_of (λ j. child_word numbered (start_of ws firsts i + j)) (size_of ws firsts i))
          (λ e. rw (← (start-value ws firsts i (item_kind ws i) refl e (value_start ws i) refl), ← (size_value ws firsts i (item_kind ws i) refl e (value_size ws i) refl)))
          (λ e. rw (← (start_guest ws firsts i (item_kind ws i) refl e (item_guest ws i) refl)))
          (λ e. rw (siblings_start e, siblings_size e) child_items_words))

      covers_is : (filter : ℕ) (inner : ℕ → ℕ → List ℕ) → slot_cover filter numbered s ≡ covers_of (rule_of form) filter inner (state_of ws ar) (state_of ws ar t) i ((state_of ws ar t).content i)
      unfolding slot_cover covers_of
      covers_is filter inner =
          rw (w4, w5, w6)
          (by_content ws ar roster r ro t i l own (λ (x : Content). covers_of (rule_of form) filter inner (state_of ws ar) (state_of ws ar t) i x)
          (size_of ws firsts i) (chunk_size filter (slot_count numbered (start_of ws firsts i))) (4 * size_of ws firsts i)
          (λ e. sym (size_value ws firsts i (item_kind ws i) refl e (value_size ws i) refl) ∙ sym (length_part ar (value_start ws i) (value_size ws i) (r.value i l e)))
          (λ e. ap (chunk_size filter) (ap (slot_count numbered) (sym (start_guest ws firsts i (item_kind ws i) refl e (item_guest ws i) refl)) ∙ members_is (item_guest ws i) (r.guest i l e)))
          (λ e. ap (λ (n : ℕ). 4 * n) (siblings_size e ∙ ap length (sym (children_child_items ws ar r t i l own)))))

  -- ---- the tables

  plan_is : (filter : ℕ) (inner : ℕ → ℕ → List ℕ) (t : ℕ) → t < most_tables
      → SamePlan (numbered_plan inner numbered ar filter t) (plan_of (rule_of form) filter inner (state_of ws ar) (state_of ws ar t))
  unfolding numbered_plan plan_of
  plan_is filter inner t h = record {
    count = members_is t h;
    filter = refl;
    first = λ k l. w7 (first_slot numbered t + k) (it k) (item k l) (slot k l) ∙ ap (λ (n : ℕ). bucket_word roster (n + k)) (first_is t h) ∙ ro.buckets t k h (low k l);
    hash = λ k l. w0 (first_slot numbered t + k) (it k) (item k l) (slot k l) ∙ hash_is ws ar roster r ro t (it k) (item k l) (own k l) form;
    parent = λ k l. w1 (first_slot numbered t + k) (it k) (item k l) (slot k l) ∙ parent_is ws ar roster r ro t (it k) (item k l) (own k l);
    fragment = λ k l. rw (w2 (first_slot numbered t + k) (it k) (item k l) (slot k l), w3 (first_slot numbered t + k) (it k) (item k l) (slot k l)) (fragment_is ws ar roster r ro t (it k) (item k l) (own k l));
    kind = λ k l. w4 (first_slot numbered t + k) (it k) (item k l) (slot k l) ∙ kind_is ws ar roster r ro t (it k) (item k l) (own k l);
    align = λ k l. rw (w4 (first_slot numbered t + k) (it k) (item k l) (slot k l)) (by_content ws ar roster r ro t (it k) (item k l) (own k l) align_of 8 4 4 (λ e. refl) (λ e. refl) (λ e. refl));
    value = λ k at l. value_is (first_slot numbered t + k) (it k) (item k l) (slot k l) t (own k l) filter inner at;
    covers = λ k l. covers_is (first_slot numbered t + k) (it k) (item k l) (slot k l) t (own k l) filter inner;
  }
    where
      it : ℕ → ℕ
      it k = item_of (rule_of form) (state_of ws ar t) k

      low : (k : ℕ) → k < slot_count numbered t → k < slot_count roster t
      low k l = omega (arith, count_is t h)

      item : (k : ℕ) → k < slot_count numbered t → it k < item_total ws
      item k l = item_in ws ar roster r ro t k h (low k l)

      own : (k : ℕ) (l : k < slot_count numbered t) → item_table ws (it k) ≡ t
      own k l = item_of_lem ws ar roster r ro t k h (low k l)

      slot : (k : ℕ) (l : k < slot_count numbered t) → slot_of ws roster (it k) ≡ first_slot numbered t + k
      slot k l = slot_of_lem ws ar roster r ro t k h (low k l) ∙ ap (λ (n : ℕ). n + k) (sym (first_is t h))

  pub numbered_as : NumberedAs (rule_of form) ws ar numbered
  numbered_as = record { fits = numbered_fits; plans = plan_is }
