-- One slot more of a numbered table, and a numbered table before its first.
use mathlib.Core.Path.{◌≡◌, refl, sym, ap, ◌∙◌}
use mathlib.Core.Logic.{⊎_elim}
use mathlib.Core.List.{List, [], ◌∷◌}
use Prim.Native.Nat.{ℕ, ◌+◌, ◌-◌, ◌*◌, ◌≤◌, ◌<◌}
use native.Mathlib.Omega.{arith}
use borrow.Author.Tests.{lt-ltb, le-ltb}
use lib.ListN.{length, get_or, take}
use lib.Seq.{length-take-le, get_or-take}
use Rattle.words.specs.Store.{put_at}
use Rattle.key_hash.specs.declared.hash.Form.{Form}
use Rattle.key_hash.specs.Hash.{rule_of}
use Rattle.words.proofs.ChoiceLaws.{pick_true, pick-false, eq_or_ne, lt_or_ge}
use Rattle.key_hash.proofs.HashLaws.{hash_below}
use Rattle.words.proofs.StoreLaws.{length-put, get_put, get_before, get_after, put-append}
use Rattle.build_memory.specs.Memory.{item_total, key_start, key_size, item_kind, value_start, value_size, item_guest, key_of}
use Rattle.write_parts.specs.Numbered.{slots_from, numbered_size, slot_word, slot_hash, slot_parent, slot_fragment, slot_fragment_size, slot_kind, slot_value_word, slot_value_size, slot_bucket, SlotFits, slot_size}
use Rattle.write_order.specs.Items.{hash_for}
use Rattle.write_order.proofs.ItemLaws.{hash_for_lem}
use Rattle.write_numbers.specs.Roster.{roster_size, bucket_word, Rostered}
use Rattle.layout.specs.Limits.{most_items}
use Rattle.write_slots.specs.NumberedAs.{skipped, parent_word, slot_of, start_of, size_of, front_words, back_words, slot_words, Clear, start_word, NumberedStart, NumberedChildren, NumberedSlots, Firsts}
use Rattle.write_slots.proofs.StateLaws.{Right}
use Rattle.write_slots.proofs.SlotLaws.{start-value, start_guest, start_child, size_value, size_child}
use Rattle.write_slots.proofs.RosterLaws.{slot_low, slot_once, bucket_few, skip_most, parent_few}

-- ---- slots that are alike

fits_same : (a b ar : List ℕ) (s : ℕ) → ((which : ℕ) → which < 8 → slot_word b s which ≡ slot_word a s which) → SlotFits a ar s → SlotFits b ar s
fits_same a b ar s e f =
    let e0 = e 0 (omega arith) in
    let e1 = e 1 (omega arith) in
    let e2 = e 2 (omega arith) in
    let e3 = e 3 (omega arith) in
    let e4 = e 4 (omega arith) in
    let e5 = e 5 (omega arith) in
    let e6 = e 6 (omega arith) in
    let e7 = e 7 (omega arith) in
    record {
      hash = omega (arith, e0, f.hash);
      parent = omega (arith, e1, f.parent);
      fragment = omega (arith, e2, e3, f.fragment);
      size = omega (arith, e3, f.size);
      kind = omega (arith, e4, f.kind);
      bucket = omega (arith, e7, f.bucket);
      value = λ k. omega (arith, e5, e6, f.value (sym e4 ∙ k));
      guest = λ k. omega (arith, e5, f.guest (sym e4 ∙ k));
      children = λ n m. omega (arith, e5, e6, f.children (λ k. n (e4 ∙ k)) (λ k. m (e4 ∙ k)));
    }

-- ---- a slot that was put

length_words : (ws roster firsts : List ℕ) (form : Form) (ar : List ℕ) (i : ℕ) → length (slot_words ws roster firsts form ar i) ≡ 8
unfolding slot_words front_words back_words
length_words ws roster firsts form ar i = refl

front_length : (ws roster : List ℕ) (form : Form) (ar : List ℕ) (i : ℕ) → length (front_words ws roster form ar i) ≡ 4
unfolding front_words
front_length ws roster form ar i = refl

pub halves_put : (form : Form) (ws ar roster firsts l : List ℕ) (i : ℕ) {s slot : ℕ} → s ≡ slot → {front : List ℕ} → front ≡ put_at l (slots_from + slot_size * s) (front_words ws roster form ar i)
    → {all : List ℕ} → all ≡ put_at front (slots_from + slot_size * s + 4) (back_words ws roster firsts i) → all ≡ put_at l (slots_from + slot_size * slot) (slot_words ws roster firsts form ar i)
unfolding slot_words
halves_put form ws ar roster firsts l i same e f = f ∙ rw (e, same, put-append, front_length)

module _ (l vs : List ℕ) (long : length l ≡ numbered_size) (eight : length vs ≡ 8) (s : ℕ) (low : s < most_items) where
  put_own : (which : ℕ) → which < 8 → slot_word (put_at l (slots_from + slot_size * s) vs) s which ≡ get_or vs which 0
  unfolding slot_word
  put_own which h = get_put l (slots_from + slot_size * s) vs which (omega arith) (omega arith)

  put_other : (u which : ℕ) → (u ≡ s → ⊥) → which < 8 → slot_word (put_at l (slots_from + slot_size * s) vs) u which ≡ slot_word l u which
  unfolding slot_word
  put_other u which n h =
      ⊎_elim
      (λ less. get_before l (slots_from + slot_size * s) vs (slots_from + slot_size * u + which) (omega arith))
      (λ more. get_after l (slots_from + slot_size * s) vs (slots_from + slot_size * u + which) (omega arith))
      (lt_or_ge u s)

module _ (form : Form) (ws ar roster firsts : List ℕ) (r : Right ws ar) (ro : Rostered (rule_of form) ws ar roster) (fi : Firsts firsts) where
  -- the slot of an item can be laid
  item_fits : (numbered : List ℕ) (i : ℕ) → i < item_total ws
      → ((which : ℕ) → which < 8 → slot_word numbered (slot_of ws roster i) which ≡ get_or (slot_words ws roster firsts form ar i) which 0) → SlotFits numbered ar (slot_of ws roster i)
  unfolding slot_words front_words back_words
  item_fits numbered i l e =
      let s = slot_of ws roster i in
      let e0 : slot_hash numbered s ≡ hash_for form ws ar i = e 0 (omega arith) in
      let e1 : slot_parent numbered s ≡ parent_word ws roster i = e 1 (omega arith) in
      let e2 : slot_fragment numbered s ≡ key_start ws i + skipped ws i = e 2 (omega arith) in
      let e3 : slot_fragment_size numbered s ≡ key_size ws i - skipped ws i = e 3 (omega arith) in
      let e4 : slot_kind numbered s ≡ item_kind ws i = e 4 (omega arith) in
      let e5 : slot_value_word numbered s ≡ start_of ws firsts i = e 5 (omega arith) in
      let e6 : slot_value_size numbered s ≡ size_of ws firsts i = e 6 (omega arith) in
      let e7 : slot_bucket numbered s ≡ bucket_word roster s = e 7 (omega arith) in
      let inside : i < most_items = omega (arith, r.valid.items) in
      record {
        hash = omega (arith, hash_for_lem ws ar i form (r.hash i l) refl, hash_below (rule_of form) (key_of ws ar i));
        parent = omega (arith, parent_few ws ar roster r ro i l);
        fragment = omega (arith, skip_most ws ar roster r ro i l, r.key i l);
        size = omega (arith, r.short i l);
        kind = ⊎_elim (λ k. omega arith) (λ m. ⊎_elim (λ k. omega arith) (λ k. omega arith) m) (r.kind i l);
        bucket = omega (arith, bucket_few ws ar roster r ro i l);
        value = λ k. omega (
          arith,
          start-value ws firsts i (item_kind ws i) refl (sym e4 ∙ k) (value_start ws i) refl,
          size_value ws firsts i (item_kind ws i) refl (sym e4 ∙ k) (value_size ws i) refl,
          r.value i l (sym e4 ∙ k),
        );
        guest = λ k. omega (arith, start_guest ws firsts i (item_kind ws i) refl (sym e4 ∙ k) (item_guest ws i) refl, r.guest i l (sym e4 ∙ k));
        children = λ n m. omega (
          arith,
          start_child ws firsts i (item_kind ws i) refl (λ k. n (e4 ∙ k)) (λ k. m (e4 ∙ k)),
          size_child ws firsts i (item_kind ws i) refl (λ k. n (e4 ∙ k)) (λ k. m (e4 ∙ k)),
          fi.up i inside,
          fi.few i inside,
        );
      }

  pub slots_more : (before numbered : List ℕ) (i : ℕ) → length before ≡ numbered_size → i < item_total ws → NumberedSlots form ws ar roster firsts before numbered i
      → NumberedSlots form ws ar roster firsts before (put_at numbered (slots_from + slot_size * slot_of ws roster i) (slot_words ws roster firsts form ar i)) (i + 1)
  slots_more before numbered i long l q =
      let s = slot_of ws roster i in
      let vs = slot_words ws roster firsts form ar i in
      let size : length numbered ≡ numbered_size = q.long ∙ long in
      let eight : length vs ≡ 8 = length_words ws roster firsts form ar i in
      let low : s < most_items = slot_low ws ar roster r ro i l in
      record {
        long = length-put numbered (slots_from + slot_size * s) vs ∙ q.long;
        is = λ j h. ⊎_elim
            (λ (e : j ≡ i). rw e (put_own numbered vs size eight s low))
            (λ (n : j ≡ i → ⊥). λ which w. let less : j < i = omega arith in
            put_other numbered vs size eight s low (slot_of ws roster j) which (λ e. n (slot_once ws ar roster r ro j i (omega arith) l e)) w ∙ q.is j less which w)
            (eq_or_ne j i);
        fits = λ u h. ⊎_elim
            (λ (e : u ≡ s). rw e (item_fits (put_at numbered (slots_from + slot_size * s) vs) i l (put_own numbered vs size eight s low)))
            (λ (n : u ≡ s → ⊥). fits_same numbered (put_at numbered (slots_from + slot_size * s) vs) ar u (λ which w. put_other numbered vs size eight s low u which n w) (q.fits u h))
            (eq_or_ne u s);
        head = λ k h. get_before numbered (slots_from + slot_size * s) vs k (omega arith) ∙ q.head k h;
        tail = λ k h. get_after numbered (slots_from + slot_size * s) vs k (omega arith) ∙ q.tail k h;
      }

-- ---- before the first slot: all words of slots are 0

pub start_in : (roster : List ℕ) (k : ℕ) → k < slots_from → get_or roster k 0 ≡ start_word roster k
unfolding start_word
start_in roster k l = sym (pick_true (get_or roster k 0) 0 (lt-ltb _ _ l))

pub start_out : (roster : List ℕ) (k : ℕ) → slots_from ≤ k → 0 ≡ start_word roster k
unfolding start_word
start_out roster k l = sym (pick-false (get_or roster k 0) 0 (le-ltb _ _ l))

pub start_made : (roster before after : List ℕ) → length roster ≡ roster_size → length before ≡ numbered_size → Clear before → after ≡ put_at before 0 (take slots_from roster)
    → NumberedStart roster after
start_made roster before after long wide clear e =
    let head = take slots_from roster in
    let size : length head ≡ slots_from = length-take-le slots_from roster (omega arith) in record {
      long = ap length e ∙ length-put before 0 head ∙ wide;
      is = λ k h.
          ap (λ (l : List ℕ). get_or l k 0) e
          ∙ ⊎_elim
          (λ (l : k < slots_from). ap (λ (j : ℕ). get_or (put_at before 0 head) j 0) (let at : k ≡ 0 + k = omega arith in at) ∙ get_put before 0 head k (omega arith) (omega arith) ∙ get_or-take slots_from roster k 0 l ∙ start_in roster k l)
          (λ (g : slots_from ≤ k). get_after before 0 head k (omega arith) ∙ clear k h ∙ start_out roster k g)
          (lt_or_ge k slots_from);
    }

zero_word : (ws roster order a b : List ℕ) → NumberedStart roster a → NumberedChildren ws roster order a b → (s which : ℕ) → s < most_items → which < 8 → slot_word b s which ≡ 0
unfolding slot_word
zero_word ws roster order a b st ch s which h w =
    ch.kept (slots_from + slot_size * s + which) (omega arith) ∙ st.is (slots_from + slot_size * s + which) (omega arith) ∙ sym (start_out roster (slots_from + slot_size * s + which) (omega arith))

pub start_fits : (ws ar roster order a b : List ℕ) → NumberedStart roster a → NumberedChildren ws roster order a b → (s : ℕ) → s < most_items → SlotFits b ar s
start_fits ws ar roster order a b st ch s h =
    let e0 : slot_hash b s ≡ 0 = word 0 (omega arith) in
    let e1 : slot_parent b s ≡ 0 = word 1 (omega arith) in
    let e2 : slot_fragment b s ≡ 0 = word 2 (omega arith) in
    let e3 : slot_fragment_size b s ≡ 0 = word 3 (omega arith) in
    let e4 : slot_kind b s ≡ 0 = word 4 (omega arith) in
    let e5 : slot_value_word b s ≡ 0 = word 5 (omega arith) in
    let e6 : slot_value_size b s ≡ 0 = word 6 (omega arith) in
    let e7 : slot_bucket b s ≡ 0 = word 7 (omega arith) in
    record {
      hash = omega arith;
      parent = omega arith;
      fragment = omega arith;
      size = omega arith;
      kind = omega arith;
      bucket = omega arith;
      value = λ k. absurd (omega arith);
      guest = λ k. absurd (omega arith);
      children = λ n m. omega arith;
    }
  where
    word : (which : ℕ) → which < 8 → slot_word b s which ≡ 0
    word which w = zero_word ws roster order a b st ch s which h w

-- ---- the four words and the four more, as they are read

module _ (ws roster l : List ℕ) (i at : ℕ) where
  pub front_made : (form : Form) (ar : List ℕ) (hash parent skip key size : ℕ) → hash ≡ hash_for form ws ar i → parent ≡ parent_word ws roster i → skip ≡ skipped ws i → key ≡ key_start ws i → size ≡ key_size ws i
      → put_at l at (hash ∷ parent ∷ (key + skip) ∷ (size - skip) ∷ []) ≡ put_at l at (front_words ws roster form ar i)
  unfolding front_words
  front_made form ar hash parent skip key size e f g h k = rw (e, f, g, h, k)

  pub back_made : (firsts : List ℕ) (kind start size slot : ℕ) → kind ≡ item_kind ws i → start ≡ start_of ws firsts i → size ≡ size_of ws firsts i → slot ≡ slot_of ws roster i
      → put_at l at (kind ∷ start ∷ size ∷ get_or roster (2176 + slot) 0 ∷ []) ≡ put_at l at (back_words ws roster firsts i)
  unfolding back_words bucket_word
  back_made firsts kind start size slot e f g h = rw (e, f, g, h)
