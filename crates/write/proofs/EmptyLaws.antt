-- The search for an empty key.
use mathlib.Core.Path.{◌≡◌, refl, sym, ap, ◌∙◌}
use mathlib.Core.Bool.{Bool, true, false, ◌&&◌, ◌||◌}
use mathlib.Core.Logic.{⊎_elim}
use mathlib.Core.List.{List}
use Prim.Native.Nat.{ℕ, zero, suc, ◌+◌, ◌-◌, ◌*◌, ◌≤◌, ◌<◌}
use native.Mathlib.Omega.{arith}
use borrow.Author.Tests.{eq-eqb, ne_eqb}
use lib.Dec.{eqb}
use lib.ListN.{length, get_or}
use Rattle.words.specs.Below.{some_below}
use Rattle.words.specs.Store.{part}
use Rattle.words.proofs.BelowLaws.{some_below_lem, below_some, some_turn}
use Rattle.model.specs.Table.{Content, Rows, Has, times}
use Rattle.layout.specs.Kind.{table_kind}
use Rattle.build_memory.specs.Memory.{item_total, key_size, item_kind, item_guest, value_start, value_size}
use Rattle.image.specs.Index.{item_of, index_in, laid_index}
use Rattle.image.proofs.TimesLaws.{times_some, index_stands}
use Rattle.image.proofs.IndexLaws.{item_within, index_within, item_index_lem}
use Rattle.write_parts.specs.Numbered.{first_slot, slot_count}
use Rattle.write_numbers.specs.Roster.{state_of, slot_item, Rostered}
use Rattle.write_numbers.proofs.StateLaws.{state_key, state_once}
use Rattle.build_memory.proofs.MeaningLaws.{key_length}
use Rattle.layout.specs.Limits.{most_items, most_tables}
use Rattle.write.specs.Write.{empty_held, has_empty}
use Rattle.write.specs.Empty.{item_empty}
use Rattle.write_slots.proofs.StateLaws.{Right, content_is}
use Rattle.write_slots.proofs.RosterLaws.{item_in}
use Rattle.write_slots.proofs.ItemLaws.{content_value, content_table, content_container}

-- ---- one item, as the code finds it

module _ (ws ar : List ℕ) (d i : ℕ) where
  pub empty_own : (size : ℕ) → size ≡ key_size ws i → size ≡ 0 → true ≡ item_empty ws ar d i
  unfolding item_empty
  empty_own size is e = simp (← is, eq-eqb _ _ e)

  module _ (size kind : ℕ) (is : size ≡ key_size ws i) (some : size ≡ 0 → ⊥) (ek : kind ≡ item_kind ws i) where
    pub empty_plain : (kind ≡ table_kind → ⊥) → false ≡ item_empty ws ar d i
    unfolding item_empty
    empty_plain n = simp (← is, ne_eqb _ _ some, ← ek, ne_eqb _ _ n)

    pub empty_held_lem : kind ≡ table_kind → (guest : ℕ) (r : Bool) → guest ≡ item_guest ws i → r ≡ has_empty (state_of ws ar) d guest → r ≡ item_empty ws ar d i
    unfolding item_empty
    empty_held_lem e guest r eg er = er ∙ simp (← is, ne_eqb _ _ some, ← ek, eq-eqb _ _ e, ← eg)

-- ---- a table, by its items

some_same : (f g : ℕ → Bool) (n : ℕ) → ((k : ℕ) → k < n → f k ≡ g k) → some_below f n ≡ some_below g n
unfolding some_below
some_same f g zero e = refl
some_same f g (suc n) e = rw (some_same f g n (λ k l. e k (omega arith)), e n (omega arith))

same_truth : (p q : Bool) → (p ≡ true → q ≡ true) → (q ≡ true → p ≡ true) → p ≡ q
same_truth true q there back = sym (there refl)
same_truth false true there back = back refl
same_truth false false there back = refl

-- what some member passes, some item passes that stands at an index
some_indexed : (test : ℕ → Bool) (rule : ℕ → ℕ) (table : Rows) → ((x : ℕ) → times x table.members ≤ 1)
    → some_below (λ k. test (get_or table.members k 0)) (length table.members) ≡ some_below (λ k. test (item_of rule table k)) (length table.members)
some_indexed test rule table one =
    same_truth _ _
    (λ e. let (k, l, is) = some_below_lem (λ k. test (get_or table.members k 0)) (length table.members) e in
    let i : ℕ = get_or table.members k 0 in
    let has : Has table.members i = times_some i table.members k l refl in
    below_some (λ k. test (item_of rule table k)) (length table.members) (laid_index rule table i) (index_within rule table one i has) (ap test (item_index_lem rule table one i has) ∙ is))
    (λ e. let (k, l, is) = some_below_lem (λ k. test (item_of rule table k)) (length table.members) e in
    let i : ℕ = item_of rule table k in
    let s = index_stands table.members i (item_within rule table one k l) in
    below_some (λ k. test (get_or table.members k 0)) (length table.members) (index_in table.members i) s.within (ap test s.is ∙ is))

held-table : (f : ℕ → Bool) (t : ℕ) → empty_held f (Content.nested t) ≡ f t
unfolding empty_held
held-table f t = refl

held_bytes : (f : ℕ → Bool) (v : List ℕ) → empty_held f (Content.bytes v) ≡ false
unfolding empty_held
held_bytes f v = refl

held-container : (f : ℕ → Bool) → empty_held f Content.container ≡ false
unfolding empty_held
held-container f = refl

-- what the items at the first k indices have
unfoldable pub found_below_lem : (ℕ → ℕ) → List ℕ → List ℕ → ℕ → ℕ → ℕ → Bool
found_below_lem rule ws ar t d k = some_below (λ j. item_empty ws ar d (item_of rule (state_of ws ar t) j)) k

module _ {rule : ℕ → ℕ} {ws ar roster : List ℕ} (r : Right ws ar) (ro : Rostered rule ws ar roster) where
  content_same : (d t i : ℕ) → i < item_total ws
      → empty_held (λ u. has_empty (state_of ws ar) d u) ((state_of ws ar t).content i) ≡ (eqb (item_kind ws i) table_kind && has_empty (state_of ws ar) d (item_guest ws i))
  content_same d t i l =
      let f : ℕ → Bool = λ u. has_empty (state_of ws ar) d u in
      ap (empty_held f) (content_is ws ar t i l)
      ∙ ⊎_elim
      (λ k. ap (empty_held f) (content_value ws ar i k) ∙ held_bytes f (part ar (value_start ws i) (value_size ws i)) ∙ sym (other d i (λ e. omega arith)))
      (λ m. ⊎_elim
      (λ k. ap (empty_held f) (content_table ws ar i k) ∙ held-table f (item_guest ws i) ∙ sym (own d i k))
      (λ k. ap (empty_held f) (content_container ws ar i k) ∙ held-container f ∙ sym (other d i (λ e. omega arith)))
      m)
      (r.kind i l)
    where
      own : (d i : ℕ) → item_kind ws i ≡ table_kind → (eqb (item_kind ws i) table_kind && has_empty (state_of ws ar) d (item_guest ws i)) ≡ has_empty (state_of ws ar) d (item_guest ws i)
      own d i e = simp (eq-eqb _ _ e)

      other : (d i : ℕ) → (item_kind ws i ≡ table_kind → ⊥) → (eqb (item_kind ws i) table_kind && has_empty (state_of ws ar) d (item_guest ws i)) ≡ false
      other d i n = simp (ne_eqb _ _ n)

  test_same : (d t i : ℕ) → i < item_total ws
      → (eqb (length ((state_of ws ar t).key i)) 0 || empty_held (λ u. has_empty (state_of ws ar) d u) ((state_of ws ar t).content i)) ≡ item_empty ws ar d i
  unfolding item_empty
  test_same d t i l =
      let e : length ((state_of ws ar t).key i) ≡ key_size ws i = ap length (state_key ws ar t i l) ∙ key_length ws ar i (r.key i l) in
      rw (e, content_same d t i l)

  module _ {t : ℕ} (known : t < most_tables) where
    -- the item of a slot
    pub slot_at : (k : ℕ) → k < get_or roster (2 * t + 1) 0 → get_or roster (128 + (get_or roster (2 * t) 0 + k)) 0 ≡ item_of rule (state_of ws ar t) k
    unfolding first_slot slot_count slot_item
    slot_at k h = ro.items t k known h

    pub slot_in : (k : ℕ) → k < get_or roster (2 * t + 1) 0 → item_of rule (state_of ws ar t) k < item_total ws
    unfolding slot_count
    slot_in k h = item_in ws ar roster r ro t k known h

    pub slots_few : get_or roster (2 * t) 0 + get_or roster (2 * t + 1) 0 ≤ most_items
    unfolding first_slot slot_count
    slots_few = ro.inside t known

    count_own : get_or roster (2 * t + 1) 0 ≡ length (state_of ws ar t).members
    unfolding slot_count
    count_own = ro.counts t known

    pub found_none : (d : ℕ) → found_below_lem rule ws ar t d 0 ≡ false
    unfolding found_below_lem some_below
    found_none d = refl

    pub found_turn : (d k item : ℕ) (q : Bool) → item ≡ item_of rule (state_of ws ar t) k → q ≡ item_empty ws ar d item → q ≡ false → found_below_lem rule ws ar t d k ≡ false → found_below_lem rule ws ar t d (k + 1) ≡ false
    unfolding found_below_lem
    found_turn d k item q ei eq e f = some_turn (λ j. item_empty ws ar d (item_of rule (state_of ws ar t) j)) k f (ap (item_empty ws ar d) (sym ei) ∙ sym eq ∙ e)

    empty_found : (d : ℕ) → has_empty (state_of ws ar) (suc d) t ≡ found_below_lem rule ws ar t d (get_or roster (2 * t + 1) 0)
    unfolding has_empty found_below_lem
    empty_found d =
        some_indexed (λ (i : ℕ). eqb (length ((state_of ws ar t).key i)) 0 || empty_held (λ u. has_empty (state_of ws ar) d u) ((state_of ws ar t).content i)) rule (state_of ws ar t) (state_once ws ar t)
        ∙ some_same (λ k. eqb (length ((state_of ws ar t).key (item_of rule (state_of ws ar t) k))) 0 || empty_held (λ u. has_empty (state_of ws ar) d u) ((state_of ws ar t).content (item_of rule (state_of ws ar t) k)))
        (λ k. item_empty ws ar d (item_of rule (state_of ws ar t) k)) (length (state_of ws ar t).members) (λ k h. test_same d t (item_of rule (state_of ws ar t) k) (slot_in k (omega (arith, count_own))))
        ∙ ap (some_below (λ k. item_empty ws ar d (item_of rule (state_of ws ar t) k))) (sym count_own)

    empty_is : (d : ℕ) → (d ≡ 0 → ⊥) → has_empty (state_of ws ar) d t ≡ found_below_lem rule ws ar t (d - 1) (get_or roster (2 * t + 1) 0)
    empty_is d n = let e : d ≡ suc (d - 1) = omega arith in ap (λ (x : ℕ). has_empty (state_of ws ar) x t) e ∙ empty_found (d - 1)

    pub empty_end : (d k : ℕ) → (d ≡ 0 → ⊥) → k ≡ get_or roster (2 * t + 1) 0 → found_below_lem rule ws ar t (d - 1) k ≡ false → false ≡ has_empty (state_of ws ar) d t
    empty_end d k n e f = sym (empty_is d n ∙ ap (found_below_lem rule ws ar t (d - 1)) (sym e) ∙ f)

    pub empty_hit : (d k item : ℕ) (q : Bool) → (d ≡ 0 → ⊥) → k < get_or roster (2 * t + 1) 0 → item ≡ item_of rule (state_of ws ar t) k → q ≡ item_empty ws ar (d - 1) item → q ≡ true
        → true ≡ has_empty (state_of ws ar) d t
    unfolding found_below_lem
    empty_hit d k item q n h ei eq e =
        sym (empty_is d n ∙ below_some (λ j. item_empty ws ar (d - 1) (item_of rule (state_of ws ar t) j)) (get_or roster (2 * t + 1) 0) k h (ap (item_empty ws ar (d - 1)) (sym ei) ∙ sym eq ∙ e))

pub empty_nowhere : (ws ar : List ℕ) (d t : ℕ) → d ≡ 0 → false ≡ has_empty (state_of ws ar) d t
unfolding has_empty
empty_nowhere ws ar d t e = rw e
