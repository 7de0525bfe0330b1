-- On honest memory the search along a chain answers what the model's search through all entries does.
use Prim.Native.Nat.{ℕ, zero, suc, ◌<◌}
use native.Mathlib.Nat.{not-suc-le-zero}
use native.Mathlib.Omega.{arith}
use native.Mathlib.Decide.{dec_lt}
use mathlib.Core.Path.{◌≡◌, refl, sym, ap, ◌∙◌}
use mathlib.Core.Bool.{Bool, true, false, ◌&&◌}
use mathlib.Core.List.{List, [], ◌∷◌, ◌++◌}
use borrow.Author.Tests.{eqb-true, eq-eqb}
use lib.Dec.{eqb, ltb}
use lib.ListN.{length, get_or}
use Rattle.words.specs.Choice.{pick}
use Rattle.words.proofs.ChoiceLaws.{both_hold, not_both}
use Rattle.key_order.specs.Compare.{same_bytes}
use Rattle.key_order.proofs.CompareLaws.{same_equal, same_refl}
use Rattle.model.specs.Table.{Entry, no_entry, entry_at}
use Rattle.model.specs.Walk.{find_key, is_there}
use Rattle.build_memory.specs.Memory.{item_total}
use Rattle.build_memory.specs.Find as words
use Rattle.history.specs.Items.{Item, item_of, Table}
use Rattle.history.specs.Honest.{Good}
use Rattle.history.proofs.TidySearch.{find_within}
use Rattle.history.proofs.WayDown.{item_found, item_missing}
use Rattle.history.proofs.Meaning.{entry_from, items_of, items_count, item_at_lem}

-- ---- the model's search

module _ (t : ℕ) (key : List ℕ) where
  abbrev pub hits : Entry → Bool
  hits e = eqb e.table t && same_bytes e.key key

  pub hits_if : (e : Entry) → e.table ≡ t → e.key ≡ key → hits e ≡ true
  hits_if e a b = both_hold (eq-eqb e.table t a) (ap (λ (k : List ℕ). same_bytes k key) b ∙ same_refl key)

  pub hits_not : (e : Entry) → (e.table ≡ t → e.key ≡ key → ⊥) → hits e ≡ false
  hits_not e n = not_both (eqb e.table t) (same_bytes e.key key) (λ a b. n (eqb-true e.table t a) (same_equal e.key key b))

  -- the first that is hit
  pub find_first : (items : List Entry) (i : ℕ) → i < length items → hits (get_or items i no_entry) ≡ true
      → ((j : ℕ) → j < i → hits (get_or items j no_entry) ≡ false) → find_key items t key ≡ i
  unfolding find_key pick
  find_first [] i h e n = absurd (not-suc-le-zero h)
  find_first (x ∷ items) zero h e n = ap (λ (q : Bool). pick q 0 (suc (find_key items t key))) e
  find_first (x ∷ items) (suc i) h e n =
      ap (λ (q : Bool). pick q 0 (suc (find_key items t key))) (n 0 (omega arith))
      ∙ ap suc (find_first items i (omega arith) e (λ j l. n (suc j) (omega arith)))

  pub find_none : (items : List Entry) → ((j : ℕ) → j < length items → hits (get_or items j no_entry) ≡ false) → find_key items t key ≡ length items
  unfolding find_key pick
  find_none [] n = refl
  find_none (x ∷ items) n =
      ap (λ (q : Bool). pick q 0 (suc (find_key items t key))) (n 0 (omega arith)) ∙ ap suc (find_none items (λ j l. n (suc j) (omega arith)))

  -- an entry more that is not hit leaves a key missing
  pub find_snoc : (items : List Entry) (x : Entry) → find_key items t key ≡ length items → hits x ≡ false → find_key (items ++ (x ∷ [])) t key ≡ length (items ++ (x ∷ []))
  unfolding find_key pick
  find_snoc [] x e n = ap (λ (q : Bool). pick q 0 1) n
  find_snoc (y ∷ items) x e n = by_test (hits y) e (λ g. find_snoc items x g n)
    where
      by_test : (q : Bool) → pick q 0 (suc (find_key items t key)) ≡ suc (length items) → (find_key items t key ≡ length items → find_key (items ++ (x ∷ [])) t key ≡ length (items ++ (x ∷ [])))
          → pick q 0 (suc (find_key (items ++ (x ∷ [])) t key)) ≡ suc (length (items ++ (x ∷ [])))
      by_test true e ih = absurd (omega arith)
      by_test false e ih = ap suc (ih (omega arith))

-- ---- both searches on honest memory

module _ (g : ℕ → Table) (ws ar : List ℕ) (honest : Good g ws ar) (t : ℕ) (key : List ℕ) where
  abbrev items : List Entry
  items = items_of ws ar

  entry_spot : (x : Item) → ((entry_from x).table ≡ x.table) × ((entry_from x).key ≡ x.key)
  unfolding entry_from
  entry_spot x = (refl, refl)

  at_is : (i : ℕ) → i < item_total ws → get_or items i no_entry ≡ entry_from (item_of ws ar i)
  unfolding entry_at
  at_is i h = item_at_lem ws ar i h

  miss_by : (i : ℕ) → i < item_total ws → ((item_of ws ar i).table ≡ t → (item_of ws ar i).key ≡ key → ⊥) → hits t key (get_or items i no_entry) ≡ false
  miss_by i h n =
      ap (hits t key) (at_is i h)
      ∙ hits_not t key (entry_from (item_of ws ar i)) (λ a b. n (sym (entry_spot (item_of ws ar i)).0 ∙ a) (sym (entry_spot (item_of ws ar i)).1 ∙ b))

  pub find_same : words.find_key ws ar t key ≡ find_key items t key
  find_same = by_field (dec_lt (words.find_key ws ar t key) (item_total ws))
    where
      by_field : Dec (words.find_key ws ar t key < item_total ws) → words.find_key ws ar t key ≡ find_key items t key
      by_field (yes l) =
          let i = words.find_key ws ar t key in
          let r = item_found ws ar honest.tidy t key i refl l in
          sym (find_first t key items i (omega (arith, items_count ws ar))
          (ap (hits t key) (at_is i l) ∙ hits_if t key (entry_from (item_of ws ar i)) ((entry_spot (item_of ws ar i)).0 ∙ r.0) ((entry_spot (item_of ws ar i)).1 ∙ r.1))
          (λ j u. miss_by j (omega arith) (λ a b. let z : j ≡ i = honest.consistent.distinct j i (omega arith) l (a ∙ sym r.0) (b ∙ sym r.1) in omega arith)))
      by_field (no l) =
          let none = item_missing ws ar honest.tidy t key (omega arith) in
          none_is l ∙ sym (items_count ws ar) ∙ sym (find_none t key items (λ j u. let v : j < item_total ws = omega (arith, items_count ws ar) in miss_by j v (none j v)))
        where
          none_is : (words.find_key ws ar t key < item_total ws → ⊥) → words.find_key ws ar t key ≡ item_total ws
          none_is h = let b = find_within ws ar honest.tidy t key in omega arith

  pub there_same : is_there items t key ≡ ltb (words.find_key ws ar t key) (item_total ws)
  there_same = ap (λ (n : ℕ). ltb n (length items)) (sym find_same) ∙ ap (ltb (words.find_key ws ar t key)) (items_count ws ar)
