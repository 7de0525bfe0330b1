-- The plan of a well_formed_lem table keeps what reading back asks, for every rule for a byte.
use mathlib.Core.Path.{◌≡◌, refl, sym, ap, ◌∙◌}
use mathlib.Core.Logic.{⊎_elim, ◌⊎◌, inl, inr}
use mathlib.Core.Bool.{Bool, true, false}
use mathlib.Core.List.{List, ◌++◌}
use Prim.Native.Nat.{ℕ, suc, ◌+◌, ◌%◌, ◌^◌, ◌≤◌, ◌<◌}
use native.Mathlib.Numerals.{add-one}
use native.Mathlib.Omega.{arith}
use lib.Dec.{ltb}
use lib.ListN.{length, drop, length-drop, take-append-drop}
use Rattle.words.specs.Choice.{pick}
use Rattle.key_hash.specs.Hash.{hash_by}
use Rattle.words.proofs.ChoiceLaws.{pick_with}
use Rattle.key_hash.proofs.HashLaws.{hash_below}
use Rattle.text.specs.Utf8.{is_utf8}
use Rattle.text.proofs.Utf8Parts.{utf8_rest}
use Rattle.layout.specs.Item.{no_item}
use Rattle.model.specs.Table.{Content, Rows, State, Has, is_child, fragment_at}
use Rattle.image.specs.Index.{hashes_of, bucket_start, item_of, index_in, laid_index}
use Rattle.layout.specs.Sizes.{chunk_size}
use Rattle.image.specs.Image.{children_of, parent_index, value_of, covers_of, plan_of}
use Rattle.image.specs.WellFormed.{WellFormed}
use Rattle.image.specs.Fits.{PlanFits}
use Rattle.image.proofs.TimesLaws.{index_stands}
use Rattle.image.proofs.IndexLaws.{first_most, run-from, run_to, item_within, item_once, index_within, item_index_lem}
use Rattle.image.proofs.ChildLaws.{length-child_words}
use Rattle.laid.specs.Keys.{PlanKeys, PlanRuns, last_of}

pub bool_cases : (t : Bool) → (t ≡ true) ⊎ (t ≡ false)
bool_cases true = inl refl
bool_cases false = inr refl

-- ---- a table's items

module _ (table : Rows) (well : WellFormed table) where
  -- a child's key is its parent's with its fragment behind it, a root's is its fragment
  pub child_key : (i : ℕ) → Has table.members i → is_child table i ≡ true → table.key i ≡ table.key (table.above i) ++ fragment_at table i
  unfolding fragment_at pick
  child_key i l c =
      let above = table.key (table.above i) in
      rw c (sym (take-append-drop (length above) (table.key i)) ∙ ap (λ (a : List ℕ). a ++ drop (length above) (table.key i)) (well.child i l c).begins)

  pub root_key : (i : ℕ) → is_child table i ≡ false → fragment_at table i ≡ table.key i
  unfolding fragment_at pick
  root_key i c = rw c

  fragment_short : (i : ℕ) → Has table.members i → length (fragment_at table i) ≤ 1024
  unfolding fragment_at
  fragment_short i l =
      pick_with (λ (f : List ℕ). length f ≤ 1024) (is_child table i) _ _
      (λ _. omega (arith, length-drop (length (table.key (table.above i))) (table.key i), well.short i l)) (λ _. well.short i l)

  pub fragment_utf8 : (i : ℕ) → Has table.members i → is_utf8 (fragment_at table i) ≡ true
  fragment_utf8 i l =
      ⊎_elim
      (λ c. utf8_rest (table.key (table.above i)) (fragment_at table i) (well.utf8 (table.above i) (well.child i l c).member) (rw (child_key i l c) at (well.utf8 i l)))
      (λ c. rw (root_key i c) (well.utf8 i l))
      (bool_cases (is_child table i))

  module _ (rule : ℕ → ℕ) where
    pub parent_child : (i : ℕ) → is_child table i ≡ true → parent_index rule table i ≡ laid_index rule table (table.above i)
    unfolding parent_index pick
    parent_child i c = rw c

    pub parent_root : (i : ℕ) → is_child table i ≡ false → parent_index rule table i ≡ no_item
    unfolding parent_index pick
    parent_root i c = rw c

    -- a child's parent has an index, and the item there is the item above
    pub parent_small : (i : ℕ) → Has table.members i → is_child table i ≡ true → parent_index rule table i < length table.members
    parent_small i l c = rw (parent_child i c) (index_within rule table well.once (table.above i) (well.child i l c).member)

    pub parent_item : (i : ℕ) → Has table.members i → is_child table i ≡ true → item_of rule table (parent_index rule table i) ≡ table.above i
    parent_item i l c = rw (parent_child i c) (item_index_lem rule table well.once (table.above i) (well.child i l c).member)

    -- an item is a child exactly when its parent word is not that of a root
    pub child_known : (i : ℕ) → (parent_index rule table i ≡ no_item → ⊥) → is_child table i ≡ true
    child_known i n = ⊎_elim (λ c. c) (λ c. absurd (n (parent_root i c))) (bool_cases (is_child table i))

    pub root_known : (i : ℕ) → Has table.members i → parent_index rule table i ≡ no_item → is_child table i ≡ false
    root_known i l e = ⊎_elim (λ c. absurd (omega (arith, parent_small i l c, well.few))) (λ c. c) (bool_cases (is_child table i))

-- an index below the next bucket's word, or any index for the last bucket
before_last : (hashes : List ℕ) (count b k : ℕ) → k < count → k < bucket_start hashes (suc b) → k < pick (ltb (b + 1) count) (bucket_start hashes (b + 1)) count
before_last hashes count b k l h = pick_with (λ (m : ℕ). k < m) (ltb (b + 1) count) _ _ (λ _. rw add-one h) (λ _. l)

-- ---- its plan, where a nested table fills at least its chunk

module _ (rule : ℕ → ℕ) (filter : ℕ) (inner : ℕ → ℕ → List ℕ) (state : State) (table : Rows) (well : WellFormed table) where
  item_has : (k : ℕ) → k < length table.members → Has table.members (item_of rule table k)
  item_has k l = item_within rule table well.once k l

  covers_value : (i : ℕ) (c : Content) (at : ℕ) → ((u : ℕ) → c ≡ Content.nested u → chunk_size filter (length (state u).members) ≤ length (inner u at))
      → covers_of rule filter inner state table i c ≤ length (value_of rule filter inner state table i c at)
  unfolding covers_of value_of
  covers_value i (Content.bytes value) at room = omega arith
  covers_value i (Content.nested u) at room = room u refl
  covers_value i Content.container at room = omega (arith, length-child_words rule table (children_of table i))

  pub plan_fits : filter < 2 ^ 27 → ((i u : ℕ) → Has table.members i → table.content i ≡ Content.nested u → (at : ℕ) → chunk_size filter (length (state u).members) ≤ length (inner u at))
      → PlanFits (plan_of rule filter inner state table)
  unfolding plan_of
  plan_fits few room = record {
    filter27 = few;
    first32 = λ b l. omega (arith, first_most rule table b, well.few);
    hash32 = λ k l. hash_below rule (table.key (item_of rule table k));
    parent32 = λ k l. let i = item_of rule table k in
        ⊎_elim (λ c. omega (arith, parent_small table well rule i (item_has k l) c, well.few)) (λ c. omega (arith, parent_root table well rule i c)) (bool_cases (is_child table i));
    fragment16 = λ k l. omega (arith, fragment_short table well (item_of rule table k) (item_has k l));
    covered = λ k at l. let i = item_of rule table k in covers_value i (table.content i) at (λ u e. room i u (item_has k l) e at);
  }

  -- the chains join the whole keys, and the order of creation falls towards the parent
  pub plan_keys : PlanKeys (plan_of rule filter inner state table) (λ k. table.key (item_of rule table k)) (λ k. index_in table.members (item_of rule table k))
  unfolding plan_of
  plan_keys = record {
    few = omega (arith, well.few);
    root = λ k l e. let i = item_of rule table k in root_key table well i (root_known table well rule i (item_has k l) e);
    child = λ k l n. let i = item_of rule table k in
        let c = child_known table well rule i n in
        record {
          within = parent_small table well rule i (item_has k l) c;
          falls = rw (parent_item table well rule i (item_has k l) c) (well.child i (item_has k l) c).earlier;
          joins = rw (parent_item table well rule i (item_has k l) c) (child_key table well i (item_has k l) c);
        };
    utf8 = λ k l. fragment_utf8 table well (item_of rule table k) (item_has k l);
    ranked = λ k l. (index_stands table.members (item_of rule table k) (item_has k l)).within;
  }

  -- no key twice, and each index in its bucket's run
  pub plan_runs : PlanRuns rule (plan_of rule filter inner state table) (λ k. table.key (item_of rule table k))
  unfolding plan_of last_of
  plan_runs = record {
    hashed = λ k l. refl;
    distinct = λ j k a b e. item_once rule table well.once j k a b (well.distinct (item_of rule table j) (item_of rule table k) (item_has j a) (item_has k b) e);
    from = λ k l. run-from rule table k l;
    to = λ k l. before_last (hashes_of rule table) (length table.members) (hash_by rule (table.key (item_of rule table k)) % length table.members) k l (run_to rule table k l);
  }
