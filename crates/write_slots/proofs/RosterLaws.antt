-- The slots of a roster: every item has one, and no two have the same.
use mathlib.Core.Path.{◌≡◌, refl, sym, ap, ◌∙◌}
use mathlib.Core.Bool.{Bool, true, false}
use mathlib.Core.Logic.{◌⊎◌, inl, inr, ⊎_elim}
use mathlib.Core.List.{List}
use Prim.Native.Nat.{ℕ, ◌+◌, ◌-◌, ◌≤◌, ◌<◌, ◌^◌}
use native.Mathlib.Omega.{arith}
use lib.ListN.{length}
use Rattle.words.proofs.ChoiceLaws.{pick_true, pick-false, eq_or_ne}
use Rattle.model.specs.Table.{Has}
use Rattle.layout.specs.Item.{no_item}
use Rattle.build_memory.specs.Memory.{item_total, item_table, item_parent, key_size}
use Rattle.image.specs.Index.{item_of, laid_index}
use Rattle.image.proofs.IndexLaws.{index_within, item_index_lem, index_item, item_within, first_most}
use Rattle.write_parts.specs.Numbered.{first_slot, slot_count}
use Rattle.write_numbers.specs.Roster.{state_of, slot_item, item_index, bucket_word, Rostered}
use Rattle.layout.specs.Limits.{most_items, most_tables}
use Rattle.write_slots.specs.NumberedAs.{child_test, skipped, parent_word, slot_of, Slotted}
use Rattle.write_numbers.proofs.StateLaws.{state_below, state_once, state_table, state_has}
use Rattle.write_slots.proofs.StateLaws.{Right}
use Rattle.write_slots.proofs.SlotLaws.{skip_none, skip_own, child_some}

pub by_child : (ws : List ℕ) (i : ℕ) → (child_test ws i ≡ true) ⊎ (child_test ws i ≡ false)
by_child ws i = by (child_test ws i) refl
  where
    by : (q : Bool) → child_test ws i ≡ q → (child_test ws i ≡ true) ⊎ (child_test ws i ≡ false)
    by true e = inl e
    by false e = inr e

module _ {rule : ℕ → ℕ} (ws ar roster : List ℕ) (r : Right ws ar) (ro : Rostered rule ws ar roster) where
  module _ (i : ℕ) (l : i < item_total ws) where
    mine : Has (state_of ws ar (item_table ws i)).members i
    mine = state_has ws ar (item_table ws i) i l refl

    pub index_low : item_index roster i < slot_count roster (item_table ws i)
    index_low =
        let t = item_table ws i in
        let h : laid_index rule (state_of ws ar t) i < length (state_of ws ar t).members = index_within rule (state_of ws ar t) (state_once ws ar t) i mine in
        omega (arith, ro.indices i l, ro.counts t (r.table i l))

    pub slot_low : slot_of ws roster i < most_items
    unfolding slot_of
    slot_low = omega (arith, index_low, ro.inside (item_table ws i) (r.table i l))

    pub index_few : item_index roster i < most_items
    index_few = omega (arith, index_low, ro.inside (item_table ws i) (r.table i l))

    slot_item_lem : slot_item roster (slot_of ws roster i) ≡ i
    unfolding slot_of
    slot_item_lem =
        let t = item_table ws i in
        ro.items t (item_index roster i) (r.table i l) index_low ∙ ap (item_of rule (state_of ws ar t)) (ro.indices i l)
        ∙ item_index_lem rule (state_of ws ar t) (state_once ws ar t) i mine

    -- the word of the bucket at its index
    pub bucket_few : bucket_word roster (slot_of ws roster i) ≤ most_items
    unfolding slot_of
    bucket_few =
        let t = item_table ws i in
        omega (arith, ro.buckets t (item_index roster i) (r.table i l) index_low, first_most rule (state_of ws ar t) (item_index roster i), ro.counts t (r.table i l), ro.inside t (r.table i l))

    earlier : item_parent ws i ≤ i
    earlier = ⊎_elim (λ e. omega arith) (λ n. (r.parent i l n).earlier) (eq_or_ne (item_parent ws i) 0)

    pub skip_most : skipped ws i ≤ key_size ws i
    skip_most =
        ⊎_elim
        (λ e. omega (arith, skip_own ws i e (item_parent ws i) (key_size ws (item_parent ws i - 1)) refl refl, (r.parent i l (child_some ws i e)).shorter))
        (λ e. omega (arith, skip_none ws i e))
        (by_child ws i)

    pub slotted : length ar < 2 ^ 64 → Slotted ws roster i
    slotted room = record {
      long = r.valid.long;
      roster_long = ro.long;
      inside = omega (arith, r.valid.items);
      table = r.table i l;
      earlier = earlier;
      shorter = skip_most;
      key = omega (arith, r.key i l);
      within = slot_low;
    }

  -- the laid index of a parent
  pub parent_few : (i : ℕ) → i < item_total ws → parent_word ws roster i < 2 ^ 32
  unfolding parent_word
  parent_few i l =
      ⊎_elim
      (λ e. let b = r.parent i l (child_some ws i e) in
      let less : item_parent ws i - 1 < item_total ws = omega (arith, b.earlier) in
      omega (arith, pick_true (item_index roster (item_parent ws i - 1)) no_item e, index_few (item_parent ws i - 1) less))
      (λ e. omega (arith, pick-false (item_index roster (item_parent ws i - 1)) no_item e))
      (by_child ws i)

  -- no two items have one slot
  pub slot_once : (i j : ℕ) → i < item_total ws → j < item_total ws → slot_of ws roster i ≡ slot_of ws roster j → i ≡ j
  slot_once i j h l e = sym (slot_item_lem i h) ∙ ap (slot_item roster) e ∙ slot_item_lem j l

  -- ---- the item at an index

  module _ (t k : ℕ) (known : t < most_tables) (low : k < slot_count roster t) where
    item_has : Has (state_of ws ar t).members (item_of rule (state_of ws ar t) k)
    item_has = item_within rule (state_of ws ar t) (state_once ws ar t) k (omega (arith, ro.counts t known))

    pub item_in : item_of rule (state_of ws ar t) k < item_total ws
    item_in = state_below ws ar t (item_of rule (state_of ws ar t) k) item_has

    pub item_of_lem : item_table ws (item_of rule (state_of ws ar t) k) ≡ t
    item_of_lem = state_table ws ar t (item_of rule (state_of ws ar t) k) item_has

    pub slot_of_lem : slot_of ws roster (item_of rule (state_of ws ar t) k) ≡ first_slot roster t + k
    unfolding slot_of
    slot_of_lem =
        let i = item_of rule (state_of ws ar t) k in
        let e : item_index roster i ≡ k = ro.indices i item_in ∙ ap (λ (u : ℕ). laid_index rule (state_of ws ar u) i) item_of_lem
        ∙ index_item rule (state_of ws ar t) (state_once ws ar t) k (omega (arith, ro.counts t known)) in
        rw (item_of_lem, e)
