-- Laws of the tables one behind the other: what is put for one table keeps what was put for those before it.
use Prim.Native.Nat.{ℕ, zero, suc, ◌+◌, ◌-◌, ◌*◌, ◌≤◌, ◌<◌}
use native.Mathlib.Omega.{arith}
use mathlib.Core.Path.{◌≡◌, refl, sym, ap, ◌∙◌}
use mathlib.Core.List.{List, [], append_assoc, append-nil}
use lib.ListN.{length, get_or, drop, set, length-set, length-drop}
use borrow.Author.Count.{below_more}
use borrow.Rule.Slice.PartMut.{put_mid, post_of, Post-is}
use lib.Seq.{get_or-set_same, get_or-set_other, drop-drop, drop-length, take_all}
use Rattle.words.specs.Store.{part, put_at}
use Rattle.words.proofs.StoreLaws.{put_parts, part-put, get_put, get_before}
use Rattle.model.specs.Table.{Has}
use Rattle.layout.specs.Limits.{most_items, most_tables}
use Rattle.build_memory.specs.Memory.{item_total, item_table}
use Rattle.image.specs.Index.{hashes_of, bucket_start, by_index, item_of, laid_index}
use Rattle.image.proofs.IndexLaws.{length_hashes, length-by_index, numbering}
use Rattle.write_order.specs.Chain.{starts}
use Rattle.write_order.specs.Items.{AllBelow, indices_put}
use Rattle.write_order.proofs.ChainLaws.{length-starts, starts_at}
use Rattle.write_order.proofs.ItemLaws.{indices_of}
use Rattle.write_numbers.specs.Roster.{state_of}
use Rattle.write_numbers.specs.Fill.{all_of_table, first_slot_of, Fit, Fits, IndexedAs, Put, Sized, Filled}
use Rattle.write_numbers.proofs.OfTableLaws.{slot_next, slot_apart, slot_few}
use Rattle.write_numbers.proofs.StateLaws.{state_members, state_below, state_once, state_table, state_has}

-- ---- one table

module _ (ws ar : List ℕ) (t : ℕ) where
  by_index_has : (rule : ℕ → ℕ) (k : ℕ) → k < length (by_index rule (state_of ws ar t)) → Has (state_of ws ar t).members (get_or (by_index rule (state_of ws ar t)) k 0)
  by_index_has rule k h = (numbering rule (state_of ws ar t) (state_once ws ar t)).has k (omega (arith, length-by_index rule (state_of ws ar t)))

  by_index_below : (rule : ℕ → ℕ) (n : ℕ) → item_total ws ≤ n → AllBelow n (by_index rule (state_of ws ar t))
  unfolding AllBelow
  by_index_below rule n few k h = omega (arith, state_below ws ar t _ (by_index_has rule k h))

  members_long : length (state_of ws ar t).members ≡ length (all_of_table ws t)
  members_long = ap length (state_members ws ar t)

-- words lent from `first` on, with vs stored at their front, and put back
put-tail : (l vs : List ℕ) (first : ℕ) {tail : List ℕ} → first + length vs ≤ length l → tail ≡ put_at (part l first (length l - first)) 0 vs → put_mid first (length l - first) l tail ≡ put_at l first vs
put-tail l vs first fits e =
    let none : post_of first (length l - first) l ≡ [] = Post-is first (length l) l (omega arith) ∙ drop-length l in
    let behind : drop (0 + length vs) (drop first l) ≡ drop (first + length vs) l = drop-drop (0 + length vs) first l ∙ ap (λ (n : ℕ). drop n l) (plus_zero (length vs)) in
    let whole : part l first (length l - first) ≡ drop first l = take_all (length l - first) (drop first l) (omega (arith, length-drop first l)) in
    rw (none, append-nil, e, whole, put_parts (drop first l) 0 vs (omega (arith, length-drop first l)), behind, put_parts l first vs fits) (simp append_assoc)
  where
    plus_zero : (n : ℕ) → first + (0 + n) ≡ first + n
    plus_zero n = omega arith

module _ {rule : ℕ → ℕ} {ws ar : List ℕ} {t n : ℕ} {slots slots' indices buckets buckets' : List ℕ} (first : ℕ) (fit : Fit ws) (fits : Fits ws t first)
    (size : Sized slots indices buckets)
    (l : IndexedAs rule ws ar t n (part slots first (length slots - first)) slots' (part buckets first (length buckets - first)) buckets') where
  pub indexed_count : n ≡ length (all_of_table ws t)
  indexed_count = l.count ∙ members_long ws ar t

  long : length (by_index rule (state_of ws ar t)) ≡ n
  long = length-by_index rule (state_of ws ar t) ∙ sym l.count

  slots_put : put_mid first (length slots - first) slots slots' ≡ put_at slots first (by_index rule (state_of ws ar t))
  slots_put = put-tail slots (by_index rule (state_of ws ar t)) first (omega (arith, long, indexed_count, fits)) l.items_are

  buckets-put : put_mid first (length buckets - first) buckets buckets' ≡ put_at buckets first (starts (hashes_of rule (state_of ws ar t)))
  buckets-put = put-tail buckets (starts (hashes_of rule (state_of ws ar t))) first
      (omega (arith, length-starts (hashes_of rule (state_of ws ar t)), length_hashes rule (state_of ws ar t), l.count, indexed_count, fits)) l.firsts_are

  -- the items in the slots of the table
  pub slots_part : part (put_mid first (length slots - first) slots slots') first (first + n - first) ≡ by_index rule (state_of ws ar t)
  slots_part = let span : first + n - first ≡ length (by_index rule (state_of ws ar t)) = omega (arith, long) in
      rw (slots_put, span) (part-put slots first (by_index rule (state_of ws ar t)) (omega (arith, long, indexed_count, fits)))

  pub slots_below : (most : ℕ) → most_items ≤ most → AllBelow most (by_index rule (state_of ws ar t))
  slots_below most h = by_index_below ws ar t rule most (omega (arith, fit.few))

  -- they have an index each
  pub slots_part_below : AllBelow (length indices) (part (put_mid first (length slots - first) slots slots') first (first + n - first))
  slots_part_below = rw slots_part (by_index_below ws ar t rule (length indices) (omega (arith, fit.few, size.of_indices)))

  pub put_all : (indices' items : List ℕ) → items ≡ by_index rule (state_of ws ar t) → indices' ≡ indices_put indices items (length items)
      → Put rule ws ar t first n slots (put_mid first (length slots - first) slots slots') indices indices' buckets (put_mid first (length buckets - first) buckets buckets')
  put_all indices' items is en = record {
    count = l.count;
    slots_are = slots_put;
    buckets_are = buckets-put;
    indices_are = en ∙ ap (λ (m : List ℕ). indices_put indices m (length m)) is;
  }

-- ---- one table more

-- an item that is not among those that get an index keeps the one that it has
indices_other : (indices items : List ℕ) (i n : ℕ) → n ≤ length items → ((k : ℕ) → k < length items → get_or items k 0 ≡ i → ⊥)
    → get_or (indices_put indices items n) i 0 ≡ get_or indices i 0
unfolding indices_put
indices_other indices items i zero h ne = refl
indices_other indices items i (suc n) h ne =
    get_or-set_other (indices_put indices items n) (get_or items n 0) i n 0 (λ e. ne n (omega arith) (sym e)) ∙ indices_other indices items i n (omega arith) ne

pub filled_none : {rule : ℕ → ℕ} (ws ar heads slots indices buckets : List ℕ) → Filled rule ws ar 0 heads slots indices buckets
filled_none ws ar heads slots indices buckets = record {
  starts_are = λ t h. absurd (omega arith);
  counts_are = λ t h. absurd (omega arith);
  items_are = λ t k h l. absurd (omega arith);
  buckets_are = λ t b h l. absurd (omega arith);
  indices_are = λ i l h. absurd (omega arith);
}

module _ {rule : ℕ → ℕ} {ws ar : List ℕ} {t first n : ℕ} {slots slots' indices indices' buckets buckets' : List ℕ} (fit : Fit ws) (at : first ≡ first_slot_of ws t)
    (p : Put rule ws ar t first n slots slots' indices indices' buckets buckets') where
  pub put_few : first + n ≤ most_items
  put_few = omega (arith, p.count, members_long ws ar t, slot_few ws t, fit.few)

  pub put_next : first + n ≡ first_slot_of ws (t + 1)
  put_next = omega (arith, p.count, members_long ws ar t, slot_next ws t)

module _ {rule : ℕ → ℕ} {ws ar : List ℕ} {t first n : ℕ} {heads slots slots' indices indices' buckets buckets' : List ℕ} (fit : Fit ws) (at : first ≡ first_slot_of ws t)
    (p : Put rule ws ar t first n slots slots' indices indices' buckets buckets') (low : t < most_tables) (long : length heads ≡ 128) (size : Sized slots indices buckets)
    (f : Filled rule ws ar t heads slots indices buckets) where
  more_fits : first + length (state_of ws ar t).members ≤ most_items
  more_fits = omega (arith, slot_few ws t, fit.few, members_long ws ar t)

  more_before : (u k : ℕ) → u < t → k < length (state_of ws ar u).members → first_slot_of ws u + k < first
  more_before u k l h = omega (arith, slot_apart ws u t l, members_long ws ar u)

  more_items : (k : ℕ) → k < length (state_of ws ar t).members → get_or slots' (first_slot_of ws t + k) 0 ≡ item_of rule (state_of ws ar t) k
  unfolding item_of
  more_items k h =
      let long = length-by_index rule (state_of ws ar t) in
      ap (λ (l : List ℕ). get_or l (first_slot_of ws t + k) 0) p.slots_are ∙ ap (λ (s : ℕ). get_or (put_at slots first (by_index rule (state_of ws ar t))) (s + k) 0) (sym at)
      ∙ get_put slots first (by_index rule (state_of ws ar t)) k (omega (arith, more_fits, size.of_slots)) (omega arith)

  more_buckets : (b : ℕ) → b < length (state_of ws ar t).members → get_or buckets' (first_slot_of ws t + b) 0 ≡ bucket_start (hashes_of rule (state_of ws ar t)) b
  more_buckets b h =
      let hashes = length_hashes rule (state_of ws ar t) in
      let long = length-starts (hashes_of rule (state_of ws ar t)) in
      ap (λ (l : List ℕ). get_or l (first_slot_of ws t + b) 0) p.buckets_are
      ∙ ap (λ (s : ℕ). get_or (put_at buckets first (starts (hashes_of rule (state_of ws ar t)))) (s + b) 0) (sym at)
      ∙ get_put buckets first (starts (hashes_of rule (state_of ws ar t))) b (omega (arith, more_fits, size.of_buckets)) (omega arith)
      ∙ starts_at (hashes_of rule (state_of ws ar t)) b (omega arith)

  more_of_table : (i : ℕ) → i < item_total ws → item_table ws i ≡ t → get_or indices' i 0 ≡ laid_index rule (state_of ws ar (item_table ws i)) i
  more_of_table i l e =
      ap (λ (m : List ℕ). get_or m i 0) p.indices_are
      ∙ indices_of rule (state_of ws ar t) indices (state_once ws ar t) (by_index_below ws ar t rule (length indices) (omega (arith, fit.few, size.of_indices))) i (state_has ws ar t i l e)
      ∙ ap (λ (u : ℕ). laid_index rule (state_of ws ar u) i) (sym e)

  more_kept : (i : ℕ) → item_table ws i < t → get_or indices' i 0 ≡ get_or indices i 0
  more_kept i l =
      ap (λ (m : List ℕ). get_or m i 0) p.indices_are
      ∙ indices_other indices (by_index rule (state_of ws ar t)) i (length (by_index rule (state_of ws ar t))) (omega arith)
      (λ k h e. let of_table : item_table ws i ≡ t = ap (item_table ws) (sym e) ∙ state_table ws ar t _ (by_index_has ws ar t rule k h) in omega arith)

  pub filled_more : Filled rule ws ar (t + 1) (set (set heads (2 * t) first) (2 * t + 1) n) slots' indices' buckets'
  filled_more = record {
    starts_are = below_more (λ (u : ℕ). get_or (set (set heads (2 * t) first) (2 * t + 1) n) (2 * u) 0 ≡ first_slot_of ws u) t
        (λ u l. get_or-set_other (set heads (2 * t) first) (2 * t + 1) (2 * u) n 0 (λ e. omega arith) ∙ get_or-set_other heads (2 * t) (2 * u) first 0 (λ e. omega arith) ∙ f.starts_are u l)
        (get_or-set_other (set heads (2 * t) first) (2 * t + 1) (2 * t) n 0 (λ e. omega arith) ∙ get_or-set_same heads (2 * t) first 0 (omega arith) ∙ at);
    counts_are = below_more (λ (u : ℕ). get_or (set (set heads (2 * t) first) (2 * t + 1) n) (2 * u + 1) 0 ≡ length (state_of ws ar u).members) t
        (λ u l. get_or-set_other (set heads (2 * t) first) (2 * t + 1) (2 * u + 1) n 0 (λ e. omega arith) ∙ get_or-set_other heads (2 * t) (2 * u + 1) first 0 (λ e. omega arith) ∙ f.counts_are u l)
        (get_or-set_same (set heads (2 * t) first) (2 * t + 1) n 0 (omega (arith, length-set heads (2 * t) first)) ∙ p.count);
    items_are = λ u k h. below_more (λ (u : ℕ). k < length (state_of ws ar u).members → get_or slots' (first_slot_of ws u + k) 0 ≡ item_of rule (state_of ws ar u) k) t
        (λ u l h. ap (λ (m : List ℕ). get_or m (first_slot_of ws u + k) 0) p.slots_are ∙ get_before slots first _ (first_slot_of ws u + k) (more_before u k l h) ∙ f.items_are u k l h)
        (more_items k) u h;
    buckets_are = λ u b h. below_more (λ (u : ℕ). b < length (state_of ws ar u).members → get_or buckets' (first_slot_of ws u + b) 0 ≡ bucket_start (hashes_of rule (state_of ws ar u)) b) t
        (λ u l h. ap (λ (m : List ℕ). get_or m (first_slot_of ws u + b) 0) p.buckets_are ∙ get_before buckets first _ (first_slot_of ws u + b) (more_before u b l h) ∙ f.buckets_are u b l h)
        (more_buckets b) u h;
    indices_are = λ i l h. below_more (λ (u : ℕ). item_table ws i ≡ u → get_or indices' i 0 ≡ laid_index rule (state_of ws ar (item_table ws i)) i) t
        (λ u less e. more_kept i (omega arith) ∙ f.indices_are i l (omega arith))
        (more_of_table i l) (item_table ws i) h refl;
  }
