-- The roster is what was filled, its parts one behind the other.
use Prim.Native.Nat.{ℕ, ◌+◌, ◌*◌, ◌≤◌, ◌<◌}
use native.Mathlib.Omega.{arith}
use mathlib.Core.Path.{◌≡◌, ap, ◌∙◌}
use mathlib.Core.Bool.{true}
use mathlib.Core.List.{List}
use lib.ListN.{length, get_or}
use Rattle.words.specs.Store.{put_at}
use Rattle.words.proofs.StoreLaws.{length-put, get_put, get_before}
use Rattle.layout.specs.Limits.{most_items, most_tables}
use Rattle.build_memory.specs.Memory.{item_total, item_table}
use Rattle.image.specs.Index.{hashes_of, bucket_start, item_of, laid_index}
use Rattle.build_rules.specs.Valid.{fully_valid}
use Rattle.build_rules.proofs.ValidFacts.{whole_facts}
use Rattle.write_parts.specs.Numbered.{slots_from, first_slot, slot_count}
use Rattle.write_numbers.specs.Roster.{indices_from, buckets_from, roster_size, state_of, slot_item, item_index, bucket_word, Rostered}
use Rattle.write_numbers.specs.Fill.{first_slot_of, Fit, Judged, Sized, Filled}
use Rattle.write_numbers.proofs.OfTableLaws.{slot_few}
use Rattle.write_numbers.proofs.StateLaws.{state_members}

pub whole_fit : (ws ar : List ℕ) → fully_valid ws ar ≡ true → Fit ws
whole_fit ws ar e = let w = whole_facts ws ar e in record { long = w.facts.long; few = w.facts.items; known = w.table; empty = w.link }

pub whole_judged : (ws ar : List ℕ) → fully_valid ws ar ≡ true → Judged ws ar
whole_judged ws ar e = record { fit = whole_fit ws ar e; hash = (whole_facts ws ar e).hash }

module _ (heads slots indices buckets r r1 r2 r3 r4 : List ℕ) (long : length r ≡ roster_size) (head : length heads ≡ slots_from) (size : Sized slots indices buckets)
    (e1 : r1 ≡ put_at r 0 heads) (e2 : r2 ≡ put_at r1 slots_from slots) (e3 : r3 ≡ put_at r2 indices_from indices) (e4 : r4 ≡ put_at r3 buckets_from buckets) where
  long_1 : length r1 ≡ roster_size
  long_1 = ap length e1 ∙ length-put r 0 heads ∙ long

  long_2 : length r2 ≡ roster_size
  long_2 = ap length e2 ∙ length-put r1 slots_from slots ∙ long_1

  long_3 : length r3 ≡ roster_size
  long_3 = ap length e3 ∙ length-put r2 indices_from indices ∙ long_2

  long_4 : length r4 ≡ roster_size
  long_4 = ap length e4 ∙ length-put r3 buckets_from buckets ∙ long_3

  below_buckets : (i : ℕ) → i < buckets_from → get_or r4 i 0 ≡ get_or r3 i 0
  below_buckets i h = ap (λ (l : List ℕ). get_or l i 0) e4 ∙ get_before r3 buckets_from buckets i h

  below_indices : (i : ℕ) → i < indices_from → get_or r4 i 0 ≡ get_or r2 i 0
  below_indices i h = below_buckets i (omega arith) ∙ ap (λ (l : List ℕ). get_or l i 0) e3 ∙ get_before r2 indices_from indices i h

  below_slots : (i : ℕ) → i < slots_from → get_or r4 i 0 ≡ get_or r1 i 0
  below_slots i h = below_indices i (omega arith) ∙ ap (λ (l : List ℕ). get_or l i 0) e2 ∙ get_before r1 slots_from slots i h

  read_head : (i : ℕ) → i < slots_from → get_or r4 i 0 ≡ get_or heads i 0
  read_head i h =
      let at : i ≡ 0 + i = omega arith in
      below_slots i h ∙ ap (λ (l : List ℕ). get_or l i 0) e1 ∙ ap (λ (k : ℕ). get_or (put_at r 0 heads) k 0) at ∙ get_put r 0 heads i (omega arith) (omega arith)

  read_slot : (s : ℕ) → s < most_items → get_or r4 (slots_from + s) 0 ≡ get_or slots s 0
  read_slot s h =
      below_indices (slots_from + s) (omega arith) ∙ ap (λ (l : List ℕ). get_or l (slots_from + s) 0) e2
      ∙ get_put r1 slots_from slots s (omega (arith, size.of_slots, long_1)) (omega (arith, size.of_slots))

  read_index : (i : ℕ) → i < most_items → get_or r4 (indices_from + i) 0 ≡ get_or indices i 0
  read_index i h =
      below_buckets (indices_from + i) (omega arith) ∙ ap (λ (l : List ℕ). get_or l (indices_from + i) 0) e3
      ∙ get_put r2 indices_from indices i (omega (arith, size.of_indices, long_2)) (omega (arith, size.of_indices))

  read_bucket : (s : ℕ) → s < most_items → get_or r4 (buckets_from + s) 0 ≡ get_or buckets s 0
  read_bucket s h =
      ap (λ (l : List ℕ). get_or l (buckets_from + s) 0) e4 ∙ get_put r3 buckets_from buckets s (omega (arith, size.of_buckets, long_3)) (omega (arith, size.of_buckets))

  module _ {rule : ℕ → ℕ} (ws ar : List ℕ) (ok : fully_valid ws ar ≡ true) (f : Filled rule ws ar most_tables heads slots indices buckets) where
    first_is : (t : ℕ) → t < most_tables → first_slot r4 t ≡ first_slot_of ws t
    unfolding first_slot
    first_is t h = read_head (2 * t) (omega arith) ∙ f.starts_are t h

    count_is : (t : ℕ) → t < most_tables → slot_count r4 t ≡ length (state_of ws ar t).members
    unfolding slot_count
    count_is t h = read_head (2 * t + 1) (omega arith) ∙ f.counts_are t h

    slots_in : (t : ℕ) → first_slot_of ws t + length (state_of ws ar t).members ≤ most_items
    slots_in t = omega (arith, slot_few ws t, ap length (state_members ws ar t), (whole_fit ws ar ok).few)

    item_is : (t k : ℕ) → t < most_tables → k < slot_count r4 t → slot_item r4 (first_slot r4 t + k) ≡ item_of rule (state_of ws ar t) k
    unfolding slot_item
    item_is t k h l =
        let few : k < length (state_of ws ar t).members = omega (arith, count_is t h) in
        ap (λ (s : ℕ). get_or r4 (slots_from + (s + k)) 0) (first_is t h) ∙ read_slot (first_slot_of ws t + k) (omega (arith, slots_in t)) ∙ f.items_are t k h few

    bucket_is : (t b : ℕ) → t < most_tables → b < slot_count r4 t → bucket_word r4 (first_slot r4 t + b) ≡ bucket_start (hashes_of rule (state_of ws ar t)) b
    unfolding bucket_word
    bucket_is t b h l =
        let few : b < length (state_of ws ar t).members = omega (arith, count_is t h) in
        ap (λ (s : ℕ). get_or r4 (buckets_from + (s + b)) 0) (first_is t h) ∙ read_bucket (first_slot_of ws t + b) (omega (arith, slots_in t)) ∙ f.buckets_are t b h few

    index_is : (i : ℕ) → i < item_total ws → item_index r4 i ≡ laid_index rule (state_of ws ar (item_table ws i)) i
    unfolding item_index
    index_is i l =
        let facts = whole_facts ws ar ok in
        read_index i (omega (arith, facts.facts.items)) ∙ f.indices_are i l (omega (arith, facts.table i l, facts.facts.tables))

    pub rostered : Rostered rule ws ar r4
    rostered = record {
      long = long_4;
      counts = count_is;
      inside = λ t h. omega (arith, first_is t h, count_is t h, slots_in t);
      items = item_is;
      indices = index_is;
      buckets = bucket_is;
    }
