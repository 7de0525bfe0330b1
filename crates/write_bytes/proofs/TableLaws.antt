-- A table of a numbered table: its plan by slots, the turns of the loop over its items, and the whole laid.
use mathlib.Core.Path.{◌≡◌, refl, sym, ap, ◌∙◌}
use mathlib.Core.List.{List, [], ◌++◌, append_assoc}
use Prim.Native.Nat.{ℕ, suc, ◌+◌, ◌*◌, ◌-◌, ◌≤◌, ◌<◌}
use native.Mathlib.Numerals.{add-one}
use native.Mathlib.Omega.{arith}
use lib.ListN.{length, length-append}
use Rattle.words.specs.Store.{part, put_at}
use Rattle.words.proofs.StoreLaws.{put-none, put_comm, length_part, put_then}
use Rattle.layout.specs.Sizes.{chunk_size}
use Rattle.image.specs.Plan.{Plan, words_of, filter_word, filter_bytes, value_start, item_bytes, payload, place, record_bytes, records, plan_bytes}
use Rattle.image.specs.Laid.{Laid}
use Rattle.image.proofs.LaidLaws.{put_both}
use Rattle.image.proofs.PlanLaws.{length_words, length_record, length-records, length-item, offset_zero, offset_next, offset_rises, payload_more, records_more, plan_end}
use Rattle.layout.specs.Limits.{most_tables, most_items}
use Rattle.write_parts.specs.Numbered.{first_slot, slot_count, slot_fragment, slot_fragment_size, slot_bucket, numbered_plan, numbered_bytes, NumberedFits, slot_cover}
use Rattle.write_parts.specs.Slot.{head_bytes, slot_filter, slot_start, slot_record, slot_key, slot_item}
use Rattle.write_parts.proofs.PutLaws.{length_head}

-- ---- a plan, and what a loop over its items has laid

offset_is : (p : Plan) (at k : ℕ) → place p at k ≡ at + length (payload p at k)
unfolding place
offset_is p at k = refl

-- where the next item starts
pub offset_more : (p : Plan) (at k : ℕ) → place p at (k + 1) ≡ place p at k + length (item_bytes p k (place p at k))
offset_more p at k = rw add-one (offset_next p at k ∙ sym (length-item p k (place p at k)))

regroup : (p : Plan) (at : ℕ)
    → ((head_bytes p.filter p.count ++ (filter_bytes p ++ words_of p.first p.count)) ++ records p (at + chunk_size p.filter p.count) p.count)
    ++ payload p (at + chunk_size p.filter p.count) p.count
    ≡ plan_bytes p at
unfolding plan_bytes head_bytes
regroup p at = simp append_assoc

-- the records of the first k items from `first` on, their fragments and values from `base` on, laid behind the front of a table
pub record Half (p : Plan) (front image : List ℕ) (first base k end : ℕ) : Type 0 where
  pub end_is : end ≡ place p base k
  pub image_is : image ≡ put_at (put_at front first (records p base k)) base (payload p base k)

module _ (p : Plan) where
  pub half_none : (front : List ℕ) (first base end : ℕ) → end ≡ base → Half p front front first base 0 end
  unfolding records payload
  half_none front first base end e = record {
    end_is = e ∙ sym (offset_zero p base);
    image_is = sym (put-none (put_at front first []) base ∙ put-none front first);
  }

  pub half_more : {front image after : List ℕ} (first base k : ℕ) {end stop : ℕ} {rec item : List ℕ} → first + 24 * k + 24 ≤ base → Half p front image first base k end
      → rec ≡ record_bytes p k end (value_start p k end) → item ≡ item_bytes p k end → Laid (put_at image (first + 24 * k) rec) after end item stop
      → Half p front after first base (k + 1) stop
  half_more {front} {image} {after} first base k {end} {stop} {rec} {item} apart h er ei laid =
      let here = place p base k in
      let e : end ≡ here = h.end_is in
      let rec1 = record_bytes p k here (value_start p k here) in
      let long : length rec1 ≡ 24 = length_record p k here (value_start p k here) in
      let q : first + 24 * k ≡ first + length (records p base k) = ap (λ (n : ℕ). first + n) (sym (length-records p base k)) in
      let er1 : rec ≡ rec1 = er ∙ rw e in
      let ei1 : item ≡ item_bytes p k here = ei ∙ rw e in
      let mid : after ≡ put_at (put_at image (first + 24 * k) rec1) end (item_bytes p k here) = rw (← er1, ← ei1) laid.image_is in
      let base-below : base ≤ end = omega (arith, e, offset_rises p base 0 k (omega arith), offset_zero p base) in
      let swapped : after ≡ put_at (put_at image end (item_bytes p k here)) (first + 24 * k) rec1 =
      mid ∙ put_comm image (first + 24 * k) rec1 end (item_bytes p k here) (omega (arith, long)) in
      record {
        end_is = laid.end_is ∙ rw (ei1, e) (sym (offset_more p base k));
        image_is = rw (records_more p base k, payload_more p base k)
            (put_both front first base (records p base k) (payload p base k) rec1 (item_bytes p k here) h.image_is (e ∙ offset_is p base k) refl q (omega (arith, long)) swapped);
      }

  -- front, records, fragments and values are the table
  pub half_all : (l : List ℕ) (at first : ℕ) {front image : List ℕ} {end : ℕ} → first ≡ at + 8 + 4 * p.filter + 4 * p.count
      → front ≡ put_at l at (head_bytes p.filter p.count ++ (filter_bytes p ++ words_of p.first p.count))
      → Half p front image first (at + chunk_size p.filter p.count) p.count end
      → Laid l image at (plan_bytes p at) end
  unfolding chunk_size
  half_all l at first {front} {image} {end} ef f h =
      let n = p.count in
      let w = p.filter in
      let base = at + (8 + 4 * w + 28 * n) in
      let start = head_bytes w n ++ (filter_bytes p ++ words_of p.first n) in
      let long : length start ≡ 8 + 4 * w + 4 * n =
      length-append (head_bytes w n) (filter_bytes p ++ words_of p.first n)
      ∙ omega (
        arith,
        length-append (filter_bytes p) (words_of p.first n),
        length_head w n,
        length_words (λ k. filter_word p.hash w k n) w,
        length_words p.first n,
      ) in
      let a : put_at front first (records p base n) ≡ put_at l at (start ++ records p base n) = put_then l at start (records p base n) (omega (arith, long, ef)) f refl in
      let size : length (start ++ records p base n) ≡ 8 + 4 * w + 28 * n = length-append start (records p base n) ∙ omega (arith, long, length-records p base n) in
      let b : image ≡ put_at l at ((start ++ records p base n) ++ payload p base n) =
      put_then l at (start ++ records p base n) (payload p base n) (omega (arith, size)) a h.image_is in
      record { end_is = h.end_is ∙ sym (plan_end p at); image_is = b ∙ ap (put_at l at) (regroup p at) }

-- ---- a table of a numbered table as a plan, slot by slot

module _ (filter : ℕ) (inner : ℕ → ℕ → List ℕ) (numbered arena : List ℕ) (t : ℕ) where
  pub plan_count : (numbered_plan inner numbered arena filter t).count ≡ slot_count numbered t
  unfolding numbered_plan
  plan_count = refl

  pub plan_words : (numbered_plan inner numbered arena filter t).filter ≡ filter
  unfolding numbered_plan
  plan_words = refl

  pub plan_filter : filter_bytes (numbered_plan inner numbered arena filter t) ≡ slot_filter numbered filter (first_slot numbered t) (slot_count numbered t)
  unfolding numbered_plan slot_filter
  plan_filter = refl

  pub plan_first : (n : ℕ) → words_of (numbered_plan inner numbered arena filter t).first n ≡ words_of (λ b. slot_bucket numbered (first_slot numbered t + b)) n
  unfolding numbered_plan
  plan_first n = refl

  module _ (fits : NumberedFits numbered arena) (known : t < most_tables) (k : ℕ) (less : k < slot_count numbered t) where
    pub slot_below : first_slot numbered t + k < most_items
    slot_below = omega (arith, fits.tables t known)

    fragment_size : length (part arena (slot_fragment numbered (first_slot numbered t + k)) (slot_fragment_size numbered (first_slot numbered t + k))) ≡ slot_fragment_size numbered (first_slot numbered t + k)
    fragment_size = length_part arena (slot_fragment numbered (first_slot numbered t + k)) (slot_fragment_size numbered (first_slot numbered t + k)) (fits.slots (first_slot numbered t + k) slot_below).fragment

    pub plan_start : (at : ℕ) → value_start (numbered_plan inner numbered arena filter t) k at ≡ slot_start numbered (first_slot numbered t + k) at
    unfolding numbered_plan value_start slot_start
    plan_start at = rw fragment_size

    pub plan_item : (at : ℕ) → item_bytes (numbered_plan inner numbered arena filter t) k at ≡ slot_item inner numbered arena (first_slot numbered t + k) at
    unfolding numbered_plan item_bytes slot_item slot_key
    plan_item at = rw (plan_start at, fragment_size)

    pub plan_record : (at start : ℕ) → record_bytes (numbered_plan inner numbered arena filter t) k at start ≡ slot_record numbered filter (first_slot numbered t + k) at start
    unfolding numbered_plan record_bytes slot_record slot_cover
    plan_record at start = rw fragment_size

-- ---- a table by the depth left

module _ (filter : ℕ) (numbered arena : List ℕ) (t at d : ℕ) where
  pub table_none : d ≡ 0 → numbered_bytes filter numbered arena d t at ≡ []
  unfolding numbered_bytes
  table_none e = rw e

  pub table_plan : (d ≡ 0 → ⊥) → numbered_bytes filter numbered arena d t at ≡ plan_bytes (numbered_plan (numbered_bytes filter numbered arena (d - 1)) numbered arena filter t) at
  unfolding numbered_bytes
  table_plan n = let e : d ≡ suc (d - 1) = omega arith in ap (λ (m : ℕ). numbered_bytes filter numbered arena m t at) e
