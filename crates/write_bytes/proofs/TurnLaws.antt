-- The turns of the loop over a table's items, as the code has them: what each may ask, and what it leaves.
use Rattle.std.specs.Prelude.{Option, Some, None}
use mathlib.Core.Path.{◌≡◌, sym, ap, ◌∙◌}
use mathlib.Core.List.{List, ◌++◌}
use Prim.Native.Nat.{ℕ, ◌+◌, ◌*◌, ◌-◌, ◌≤◌, ◌<◌}
use native.Mathlib.Nat.{add-zero}
use native.Mathlib.Omega.{arith}
use lib.ListN.{length}
use Rattle.words.specs.Store.{put_at}
use Rattle.layout.specs.Sizes.{chunk_size}
use Rattle.image.specs.Plan.{Plan, words_of, filter_bytes, item_bytes, place}
use Rattle.image.specs.Laid.{Laid}
use Rattle.image.proofs.LaidLaws.{laid_none, laid_as}
use Rattle.image.proofs.PlanLaws.{offset_zero, offset_rises, plan_end}
use Rattle.layout.specs.Limits.{most_tables, most_items, most_filter, longest_file}
use Rattle.write_parts.specs.Numbered.{first_slot, slot_count, slot_bucket, numbered_plan, numbered_bytes, NumberedFits}
use Rattle.write_bytes.specs.Measure.{measured}
use Rattle.write_parts.specs.Slot.{head_bytes, slot_filter, slot_start, slot_record, slot_item}
use Rattle.write_bytes.proofs.MeasureLaws.{end_is, long_is}
use Rattle.write_bytes.proofs.TableLaws.{Half, half_none, half_more, half_all, offset_more, plan_count, plan_words, plan_filter, plan_first, plan_start, plan_item, plan_record, table_none, table_plan}

-- table t where the depth left is d, and where its fragments and values start
abbrev pub plan_at : ℕ → List ℕ → List ℕ → ℕ → ℕ → Plan
plan_at filter numbered arena d t = numbered_plan (numbered_bytes filter numbered arena (d - 1)) numbered arena filter t

abbrev pub base_at : ℕ → List ℕ → List ℕ → ℕ → ℕ → ℕ → ℕ
base_at filter numbered arena d t at = at + chunk_size (plan_at filter numbered arena d t).filter (plan_at filter numbered arena d t).count

-- what laying item k at `end` asks
pub record Turn (filter : ℕ) (numbered arena : List ℕ) (d slot to end room : ℕ) : Type 0 where
  pub inside : slot < most_items
  pub apart : to + 24 ≤ end
  pub fits : end + length (slot_item (numbered_bytes filter numbered arena (d - 1)) numbered arena slot end) ≤ room

-- a table of a numbered table that fits, with some depth left, and the words that were read of it
pub record AtTable (filter : ℕ) (numbered arena : List ℕ) (t at d first count : ℕ) : Type 0 where
  pub fits : NumberedFits numbered arena
  pub known : t < most_tables
  pub low : filter ≤ most_filter
  pub deep : d ≡ 0 → ⊥
  pub first_is : first ≡ first_slot numbered t
  pub count_is : count ≡ slot_count numbered t

module _ (filter : ℕ) (numbered arena : List ℕ) (t at d : ℕ) where
  -- at depth 0 nothing is laid
  pub nothing_laid : (img : List ℕ) → d ≡ 0 → Laid img img at (numbered_bytes filter numbered arena d t at) at
  nothing_laid img e = laid_as (sym (table_none filter numbered arena t at d e)) (laid_none img at)

  pub nothing_long : d ≡ 0 → at + length (numbered_bytes filter numbered arena d t at) ≡ at
  nothing_long e = rw (table_none filter numbered arena t at d e) (add-zero at)

module _ {filter : ℕ} {numbered arena : List ℕ} {t at d first count : ℕ} (g : AtTable filter numbered arena t at d first count) where
  base_is : base_at filter numbered arena d t at ≡ at + 8 + 4 * filter + 28 * count
  unfolding chunk_size
  base_is = let inner = numbered_bytes filter numbered arena (d - 1) in omega (arith, plan_count filter inner numbered arena t, plan_words filter inner numbered arena t)

  -- the first item starts behind the chunk
  pub first_offset : at + 8 + 4 * filter + 28 * count ≡ place (plan_at filter numbered arena d t) (base_at filter numbered arena d t at) 0
  first_offset = sym (offset_zero (plan_at filter numbered arena d t) (base_at filter numbered arena d t at) ∙ base_is)

  -- the table ends where a next item would start
  pub table_ends : at + length (numbered_bytes filter numbered arena d t at) ≡ place (plan_at filter numbered arena d t) (base_at filter numbered arena d t at) count
  table_ends =
      ap (λ (l : List ℕ). at + length l) (table_plan filter numbered arena t at d g.deep) ∙ plan_end (plan_at filter numbered arena d t) at
      ∙ ap (place (plan_at filter numbered arena d t) (base_at filter numbered arena d t at)) (plan_count filter (numbered_bytes filter numbered arena (d - 1)) numbered arena t ∙ sym g.count_is)

  -- its chunk lies in it
  pub table_least : at + 8 + 4 * filter + 28 * count ≤ at + length (numbered_bytes filter numbered arena d t at)
  table_least =
      let p = plan_at filter numbered arena d t in
      let base = base_at filter numbered arena d t at in
      omega (arith, table_ends, base_is, offset_zero p base, offset_rises p base 0 count (omega arith))

  pub few : first + count ≤ most_items
  few = omega (arith, g.fits.tables t g.known)

  module _ (k : ℕ) (less : k < count) {end : ℕ} (e : end ≡ place (plan_at filter numbered arena d t) (base_at filter numbered arena d t at) k) where
    item_is : item_bytes (plan_at filter numbered arena d t) k end ≡ slot_item (numbered_bytes filter numbered arena (d - 1)) numbered arena (first + k) end
    item_is = rw g.first_is (plan_item filter (numbered_bytes filter numbered arena (d - 1)) numbered arena t g.fits g.known k (omega arith) end)

    -- where item k ends, the next one starts
    next_is : end + length (slot_item (numbered_bytes filter numbered arena (d - 1)) numbered arena (first + k) end) ≡ place (plan_at filter numbered arena d t) (base_at filter numbered arena d t at) (k + 1)
    next_is = rw (← item_is, e) (sym (offset_more (plan_at filter numbered arena d t) (base_at filter numbered arena d t at) k))

    -- and that lies in the table
    next_within : end + length (slot_item (numbered_bytes filter numbered arena (d - 1)) numbered arena (first + k) end) ≤ at + length (numbered_bytes filter numbered arena d t at)
    next_within =
        let p = plan_at filter numbered arena d t in
        let base = base_at filter numbered arena d t at in
        omega (arith, next_is, table_ends, offset_rises p base (k + 1) count (omega arith))

    -- what measuring it answers
    pub item_over : {m : Option ℕ} → m ≡ measured (end + length (slot_item (numbered_bytes filter numbered arena (d - 1)) numbered arena (first + k) end)) → m ≡ None
        → longest_file < at + length (numbered_bytes filter numbered arena d t at)
    item_over is p = omega (arith, long_is _ is p, next_within)

    pub item_ends : {m : Option ℕ} → m ≡ measured (end + length (slot_item (numbered_bytes filter numbered arena (d - 1)) numbered arena (first + k) end)) → {stop : ℕ} → m ≡ Some stop
        → (stop ≤ longest_file) × (stop ≡ place (plan_at filter numbered arena d t) (base_at filter numbered arena d t at) (k + 1))
    item_ends is p = let e = end_is _ is p in (e.1, e.0 ∙ next_is)

    pub turn : (room : ℕ) → at + length (numbered_bytes filter numbered arena d t at) ≤ room → Turn filter numbered arena d (first + k) (at + 8 + 4 * filter + 4 * count + 24 * k) end room
    turn room h =
        let p = plan_at filter numbered arena d t in
        let base = base_at filter numbered arena d t at in
        record {
          inside = omega (arith, few);
          apart = omega (arith, e, base_is, offset_zero p base, offset_rises p base 0 k (omega arith));
          fits = omega (arith, next_within);
        }

  -- ---- what is laid

  pub begun : (front : List ℕ) → Half (plan_at filter numbered arena d t) front front (at + 8 + 4 * filter + 4 * count) (base_at filter numbered arena d t at) 0 (at + 8 + 4 * filter + 4 * count + 24 * count)
  begun front = half_none (plan_at filter numbered arena d t) front _ _ _ (omega (arith, base_is))

  pub more : (k : ℕ) → k < count → {front image after : List ℕ} {end stop : ℕ}
      → Half (plan_at filter numbered arena d t) front image (at + 8 + 4 * filter + 4 * count) (base_at filter numbered arena d t at) k end
      → Laid (put_at image (at + 8 + 4 * filter + 4 * count + 24 * k) (slot_record numbered filter (first + k) end (slot_start numbered (first + k) end))) after end
      (slot_item (numbered_bytes filter numbered arena (d - 1)) numbered arena (first + k) end) stop
      → Half (plan_at filter numbered arena d t) front after (at + 8 + 4 * filter + 4 * count) (base_at filter numbered arena d t at) (k + 1) stop
  more k less {front} {image} {after} {end} {stop} h laid =
      let inner = numbered_bytes filter numbered arena (d - 1) in
      half_more (plan_at filter numbered arena d t) (at + 8 + 4 * filter + 4 * count) (base_at filter numbered arena d t at) k (omega (arith, base_is)) h
      (rw g.first_is (sym (rw (plan_start filter inner numbered arena t g.fits g.known k (omega arith) end) (plan_record filter inner numbered arena t g.fits g.known k (omega arith) end _))))
      (sym (item_is k less h.end_is)) laid

  pub whole : (l : List ℕ) {k : ℕ} → k ≡ count → {front image : List ℕ} {end : ℕ} → front ≡ put_at l at (head_bytes filter count ++ (slot_filter numbered filter first count ++ words_of (λ b. slot_bucket numbered (first + b)) count))
      → Half (plan_at filter numbered arena d t) front image (at + 8 + 4 * filter + 4 * count) (base_at filter numbered arena d t at) k end → Laid l image at (numbered_bytes filter numbered arena d t at) end
  whole l {k} all {front} {image} {end} f h =
      let inner = numbered_bytes filter numbered arena (d - 1) in
      let p = plan_at filter numbered arena d t in
      let n : count ≡ p.count = g.count_is ∙ sym (plan_count filter inner numbered arena t) in
      let f' : front ≡ put_at l at (head_bytes p.filter p.count ++ (filter_bytes p ++ words_of p.first p.count)) =
      rw (plan_filter filter inner numbered arena t, plan_first filter inner numbered arena t p.count, ← n, ← g.count_is, ← g.first_is, plan_words filter inner numbered arena t) f in
      laid_as (sym (table_plan filter numbered arena t at d g.deep)) (half_all p l at (at + 8 + 4 * filter + 4 * count) (omega (arith, n, plan_words filter inner numbered arena t)) f' (rw (all ∙ n) at h))
