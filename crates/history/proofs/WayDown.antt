-- The way down the containers that are there.
use Prim.Native.Nat.{ℕ, zero, suc, ◌+◌, ◌-◌, ◌≤◌, ◌<◌}
use native.Mathlib.Omega.{arith}
use native.Mathlib.Decide.{dec_lt}
use mathlib.Core.Path.{◌≡◌, refl, sym, ap, ◌∙◌, subst}
use mathlib.Core.Bool.{Bool, true, false}
use mathlib.Core.List.{List, [], ◌∷◌}
use borrow.Author.Tests.{eqb-true, eqb-false}
use lib.Dec.{eqb}
use lib.ListN.{length, take, drop, get_or, length-drop}
use lib.Seq.{get_or-drop}
use Rattle.words.specs.Choice.{pick}
use Rattle.key_order.specs.Prefix.{ends_past, next_from, next_end}
use Rattle.key_order.proofs.PrefixLaws.{next_low, next_past}
use Rattle.build_memory.specs.Memory.{item_total, item_kind}
use Rattle.build_memory.specs.Find.{find_key}
use Rattle.build_values.specs.declared.walk.Way.{Way}
use Rattle.build_values.specs.Walk.{way, descend}
use Rattle.build_values.proofs.WalkLaws.{further, walk_end, walk_miss, walk_block, walk_pass}
use Rattle.history.specs.Items.{Item, item_of}
use Rattle.history.specs.Tidy.{Tidy}
use Rattle.history.specs.Consistent.{There, Above}
use Rattle.history.proofs.TidySearch.{false-true, find_found, find_missing}

-- ---- between an index and the next end there is no separator
gap_by : (q : Bool) (sep at x : ℕ) (r : List ℕ) → eqb x sep ≡ q → (n f : ℕ) → (suc at < f → f < n → get_or r (f - suc (suc at)) 0 ≡ sep → ⊥)
    → at < f → f < pick q (suc at) n → get_or (x ∷ r) (f - suc at) 0 ≡ sep → ⊥
unfolding pick
gap_by true sep at x r q n f ih l u e = omega arith
gap_by false sep at x r q n f ih l u e = by_field (dec_lt (suc at) f)
  where
    by_field : Dec (suc at < f) → ⊥
    by_field (yes h) = let g : f - suc at ≡ suc (f - suc (suc at)) = omega arith in ih h u (sym (ap (λ (j : ℕ). get_or (x ∷ r) j 0) g) ∙ e)
    by_field (no h) = let g : f - suc at ≡ zero = omega arith in eqb-false x sep q (sym (ap (λ (j : ℕ). get_or (x ∷ r) j 0) g) ∙ e)

gap_from : (sep at : ℕ) (r : List ℕ) (f : ℕ) → at < f → f < next_from sep at r → get_or r (f - suc at) 0 ≡ sep → ⊥
unfolding next_from
gap_from sep at [] f l u e = omega arith
gap_from sep at (x ∷ r) f l u e = gap_by (eqb x sep) sep at x r refl (next_from sep (suc at) r) f (λ a b c. gap_from sep (suc at) r f a b c) l u e

pub gap : (sep : ℕ) (k : List ℕ) (from f : ℕ) → from < f → f < next_end sep k from → get_or k (f - 1) 0 ≡ sep → ⊥
unfolding next_end
gap sep k from f l u e =
    let g : from + (f - suc from) ≡ f - 1 = omega arith in
    gap_from sep from (drop from k) f l u (get_or-drop from k (f - suc from) 0 ∙ ap (λ (j : ℕ). get_or k j 0) g ∙ e)

-- ---- the byte before an end that is not the last is the separator
sep_by : (q : Bool) (sep at x : ℕ) (r : List ℕ) → eqb x sep ≡ q → (n : ℕ) → (n < suc at + length r → get_or r (n - suc (suc at)) 0 ≡ sep)
    → suc at ≤ n → (0 < length r → suc at < n) → pick q (suc at) n < at + suc (length r) → get_or (x ∷ r) (pick q (suc at) n - suc at) 0 ≡ sep
unfolding pick
sep_by true sep at x r q n ih l past h = let e : suc at - suc at ≡ zero = omega arith in ap (λ (j : ℕ). get_or (x ∷ r) j 0) e ∙ eqb-true x sep q
sep_by false sep at x r q n ih l past h =
    let p : suc at < n = past (omega arith) in
    let e : n - suc at ≡ suc (n - suc (suc at)) = omega arith in
    ap (λ (j : ℕ). get_or (x ∷ r) j 0) e ∙ ih (omega arith)

rises : (sep at : ℕ) (r : List ℕ) → 0 < length r → at < next_from sep at r
rises sep at [] h = absurd (omega arith)
rises sep at (x ∷ r) h = next_past sep at x r

next_sep : (sep at : ℕ) (r : List ℕ) → next_from sep at r < at + length r → get_or r (next_from sep at r - suc at) 0 ≡ sep
unfolding next_from
next_sep sep at [] h = absurd (let g : at < at + 0 = h in omega arith)
next_sep sep at (x ∷ r) h = sep_by (eqb x sep) sep at x r refl (next_from sep (suc at) r) (next_sep sep (suc at) r) (next_low sep (suc at) r) (rises sep (suc at) r) h

pub end_sep : (sep : ℕ) (k : List ℕ) (from e : ℕ) → from ≤ length k → e ≡ next_end sep k from → from < e → e < length k → get_or k (e - 1) 0 ≡ sep
unfolding next_end
end_sep sep k from e h is l u =
    let n = next_from sep from (drop from k) in
    let f : from + (n - suc from) ≡ e - 1 = omega arith in
    ap (λ (j : ℕ). get_or k j 0) (sym f) ∙ sym (get_or-drop from k (n - suc from) 0)
    ∙ next_sep sep from (drop from k) (omega (arith, length-drop from k))

-- ---- the search, said of items
abbrev pub Missing : ℕ → (ℕ → Item) → ℕ → List ℕ → Type 0
Missing n f t k = (i : ℕ) → i < n → (f i).table ≡ t → (f i).key ≡ k → ⊥

module _ (ws ar : List ℕ) (tidy : Tidy ws ar) (t : ℕ) (k : List ℕ) where
  pub item_found : (i : ℕ) → i ≡ find_key ws ar t k → i < item_total ws → ((item_of ws ar i).table ≡ t) × ((item_of ws ar i).key ≡ k)
  unfolding item_of
  item_found i is h = find_found ws ar tidy t k i is h

  pub item_missing : item_total ws ≤ find_key ws ar t k → Missing (item_total ws) (item_of ws ar) t k
  unfolding item_of
  item_missing h i l a b = find_missing ws ar tidy t k h i l a b

-- ---- the prefixes up to an index are there
pub record Chain (n : ℕ) (f : ℕ → Item) (t sep : ℕ) (k : List ℕ) (low : ℕ) : Type 0 where
  pub there : (e : ℕ) → 1 ≤ e → e ≤ low → get_or k (e - 1) 0 ≡ sep → There n f t (take e k)

pub chain_on : (n : ℕ) (f : ℕ → Item) (t sep : ℕ) (k : List ℕ) (from e : ℕ) → e ≡ next_end sep k from → Chain n f t sep k from → There n f t (take e k) → Chain n f t sep k e
chain_on n f t sep k from e is chain here = record { there = λ x p l s. by_field x p l s (dec_lt from x) (dec_lt x e) }
  where
    by_field : (x : ℕ) → 1 ≤ x → x ≤ e → get_or k (x - 1) 0 ≡ sep → Dec (from < x) → Dec (x < e) → There n f t (take x k)
    by_field x p l s (yes a) (yes b) = absurd (gap sep k from x a (subst (λ (y : ℕ). x < y) is b) s)
    by_field x p l s (yes a) (no b) = let g : e ≡ x = omega arith in subst (λ (y : ℕ). There n f t (take y k)) g here
    by_field x p l s (no a) b = chain.there x p (omega arith) s

-- ---- where the way ends
pub record OnWay (n : ℕ) (f : ℕ → Item) (t sep : ℕ) (k : List ℕ) (w : Way) : Type 0 where
  pub chain : Chain n f t sep k w.from
  pub above : Above n f t k w.parent w.from
  pub proper : (j : ℕ) → w.parent ≡ suc j → w.from < length k
  pub next : w.clear ≡ true → next_end sep k w.from < length k → Missing n f t (take (next_end sep k w.from) k)

module _ (ws ar : List ℕ) (tidy : Tidy ws ar) (t sep : ℕ) (k : List ℕ) where
  abbrev On : ℕ → ℕ → Type 0
  On from parent = OnWay (item_total ws) (item_of ws ar) t sep k (descend ws ar t k (ends_past sep k from) from parent)

  step : (from parent : ℕ) → Chain (item_total ws) (item_of ws ar) t sep k from → Above (item_total ws) (item_of ws ar) t k parent from
      → ((j : ℕ) → parent ≡ suc j → from < length k)
      → ((from' parent' : ℕ) → from < from' → Chain (item_total ws) (item_of ws ar) t sep k from' → Above (item_total ws) (item_of ws ar) t k parent' from'
      → ((j : ℕ) → parent' ≡ suc j → from' < length k) → On from' parent')
      → On from parent
  step from parent chain above proper ih = by_end (dec_lt (next_end sep k from) (length k))
    where
      here : (b : Bool) → (b ≡ true → next_end sep k from < length k → Missing (item_total ws) (item_of ws ar) t (take (next_end sep k from) k))
          → OnWay (item_total ws) (item_of ws ar) t sep k (way b from parent)
      here b h = record { chain = chain; above = above; proper = proper; next = h }

      by_kind : (i : ℕ) → i ≡ find_key ws ar t (take (next_end sep k from) k) → i < item_total ws → next_end sep k from < length k
          → (q : Bool) → eqb (item_kind ws i) 76 ≡ q → On from parent
      by_kind i is l u true q =
          let e = next_end sep k from in
          let f = further sep k from above.within e refl u in
          let found = item_found ws ar tidy t (take e k) i is l in
          subst (OnWay (item_total ws) (item_of ws ar) t sep k) (sym (walk_pass sep k from above.within e refl ws ar t parent u i is l (eqb-true _ _ q)))
          (ih e (i + 1) f.rises
          (chain_on (item_total ws) (item_of ws ar) t sep k from e refl chain (record { index = i; below = l; of_table = found.0; has_key = found.1 }))
          (record {
            within = omega arith;
            root = λ (z : i + 1 ≡ 0). absurd (omega arith);
            holds = λ j z. let d : i ≡ j = omega arith in
                subst (λ (y : ℕ). (y < item_total ws) × ((item_of ws ar y).table ≡ t) × ((item_of ws ar y).key ≡ take e k)) d (l, found.0, found.1);
          })
          (λ j z. u))
      by_kind i is l u false q =
          subst (OnWay (item_total ws) (item_of ws ar) t sep k) (walk_block sep k from above.within (next_end sep k from) refl ws ar t parent u i is l (eqb-false _ _ q))
          (here false (λ z. false-true z))

      by_field : next_end sep k from < length k → Dec (find_key ws ar t (take (next_end sep k from) k) < item_total ws) → On from parent
      by_field u (yes l) = by_kind (find_key ws ar t (take (next_end sep k from) k)) refl l u (eqb (item_kind ws (find_key ws ar t (take (next_end sep k from) k))) 76) refl
      by_field u (no l) =
          subst (OnWay (item_total ws) (item_of ws ar) t sep k)
          (walk_miss sep k from above.within (next_end sep k from) refl ws ar t parent u (find_key ws ar t (take (next_end sep k from) k)) refl (omega arith))
          (here true (λ z y. item_missing ws ar tidy t (take (next_end sep k from) k) (omega arith)))

      by_end : Dec (next_end sep k from < length k) → On from parent
      by_end (yes u) = by_field u (dec_lt (find_key ws ar t (take (next_end sep k from) k)) (item_total ws))
      by_end (no u) =
          subst (OnWay (item_total ws) (item_of ws ar) t sep k) (walk_end sep k from above.within (next_end sep k from) refl ws ar t parent (omega arith))
          (here true (λ z y. absurd (u y)))

  by_fuel : (fuel from parent : ℕ) → length k ≤ from + fuel → Chain (item_total ws) (item_of ws ar) t sep k from → Above (item_total ws) (item_of ws ar) t k parent from
      → ((j : ℕ) → parent ≡ suc j → from < length k) → On from parent
  by_fuel zero from parent b chain above proper = step from parent chain above proper (λ f p l c a z. absurd (let w = a.within in omega arith))
  by_fuel (suc fuel) from parent b chain above proper = step from parent chain above proper (λ f p l c a z. by_fuel fuel f p (omega arith) c a z)

  pub way_consistent : OnWay (item_total ws) (item_of ws ar) t sep k (descend ws ar t k (ends_past sep k 0) 0 0)
  way_consistent =
      by_fuel (length k) 0 0 (omega arith) (record { there = λ e p l s. absurd (omega arith) })
      (record { within = omega arith; root = λ z. refl; holds = λ j (z : 0 ≡ suc j). absurd (omega arith) }) (λ j (z : 0 ≡ suc j). absurd (omega arith))
