-- Laws about the order of keys: irreflexive, transitive, total.
use mathlib.Core.Path.{◌≡◌, refl, sym, ap, ◌∙◌}
use mathlib.Core.Bool.{Bool, true, false, ◌&&◌, ◌||◌}
use mathlib.Core.Logic.{◌⊎◌, inl, inr}
use mathlib.Core.List.{List, [], ◌∷◌, ◌++◌}
use Prim.Native.Nat.{ℕ, zero, suc, ◌+◌, ◌≤◌, ◌<◌}
use native.Mathlib.Numerals.{add-one}
use native.Mathlib.Omega.{arith}
use lib.ListN.{length, get_or, take, drop, drop_of_length-le}
use lib.Seq.{drop-cons}
use lib.Dec.{ltb, eqb}
use borrow.Author.Tests.{ltb-true, ltb-false, eqb-true, lt-ltb, le-ltb, eq-eqb, ne_eqb}
use Rattle.words.proofs.ChoiceLaws.{lt_or_ge}
use Rattle.key_order.specs.Order.{precedes}

absurd_test : true ≡ false → ⊥
absurd_test e = let z : ◌≡◌ {A = ℕ} 0 1 = cc in omega arith

-- ---- one byte each

module _ (x y : ℕ) (a b : List ℕ) where
  pub less_head : x < y → precedes (x ∷ a) (y ∷ b) ≡ true
  unfolding precedes
  less_head h = rw (lt-ltb x y h)

  pub more_head : y < x → precedes (x ∷ a) (y ∷ b) ≡ false
  unfolding precedes
  more_head h = rw (le-ltb x y (omega arith), ne_eqb x y (omega arith))

  pub same_head : x ≡ y → precedes (x ∷ a) (y ∷ b) ≡ precedes a b
  unfolding precedes
  same_head e = rw (le-ltb x y (omega arith), eq-eqb x y e)

  -- what the order of two texts says of their first bytes
  pub head_cases : precedes (x ∷ a) (y ∷ b) ≡ true → (x < y) ⊎ ((x ≡ y) × (precedes a b ≡ true))
  unfolding precedes
  head_cases e = first (ltb x y) refl e
    where
      second : (u : Bool) → eqb x y ≡ u → (u && precedes a b) ≡ true → (x < y) ⊎ ((x ≡ y) × (precedes a b ≡ true))
      second true t e = inr (eqb-true x y t, e)
      second false t e = absurd (absurd_test (sym e))

      first : (u : Bool) → ltb x y ≡ u → (u || (eqb x y && precedes a b)) ≡ true → (x < y) ⊎ ((x ≡ y) × (precedes a b ≡ true))
      first true t e = inl (ltb-true x y t)
      first false t e = second (eqb x y) refl e

  pub head_not : precedes (x ∷ a) (y ∷ b) ≡ false → y ≤ x
  head_not e = go (ltb x y) refl
    where
      go : (u : Bool) → ltb x y ≡ u → y ≤ x
      go true t = absurd (absurd_test (sym (less_head (ltb-true x y t)) ∙ e))
      go false t = ltb-false x y t

-- ---- the three laws

pub irreflexive : (a : List ℕ) → precedes a a ≡ false
unfolding precedes
irreflexive [] = refl
irreflexive (x ∷ a) = same_head x x a a refl ∙ irreflexive a

join : (x y z : ℕ) (a b c : List ℕ) → (precedes a b ≡ true → precedes b c ≡ true → precedes a c ≡ true)
    → (x < y) ⊎ ((x ≡ y) × (precedes a b ≡ true)) → (y < z) ⊎ ((y ≡ z) × (precedes b c ≡ true)) → precedes (x ∷ a) (z ∷ c) ≡ true
join x y z a b c rest (inl p) (inl q) = less_head x z a c (omega arith)
join x y z a b c rest (inl p) (inr q) = less_head x z a c (omega arith)
join x y z a b c rest (inr p) (inl q) = less_head x z a c (omega arith)
join x y z a b c rest (inr p) (inr q) = same_head x z a c (omega arith) ∙ rest p.1 q.1

pub transitive : (a b c : List ℕ) → precedes a b ≡ true → precedes b c ≡ true → precedes a c ≡ true
unfolding precedes
transitive [] [] c p q = absurd (absurd_test (sym p))
transitive [] (y ∷ b) [] p q = q
transitive [] (y ∷ b) (z ∷ c) p q = refl
transitive (x ∷ a) [] c p q = absurd (absurd_test (sym p))
transitive (x ∷ a) (y ∷ b) [] p q = absurd (absurd_test (sym q))
transitive (x ∷ a) (y ∷ b) (z ∷ c) p q = join x y z a b c (transitive a b c) (head_cases x y a b p) (head_cases y z b c q)

pub total : (a b : List ℕ) → precedes a b ≡ false → precedes b a ≡ false → a ≡ b
unfolding precedes
total [] [] p q = refl
total [] (y ∷ b) p q = absurd (absurd_test p)
total (x ∷ a) [] p q = absurd (absurd_test q)
total (x ∷ a) (y ∷ b) p q =
    let ge : y ≤ x = head_not x y a b p in
    let le : x ≤ y = head_not y x b a q in
    let e : x ≡ y = omega arith in
    cc (total a b (sym (same_head x y a b e) ∙ p) (sym (same_head y x b a (sym e)) ∙ q))

-- not both ways
pub asymmetric : (a b : List ℕ) → precedes a b ≡ true → precedes b a ≡ false
asymmetric a b p = go (precedes b a) refl
  where
    go : (t : Bool) → precedes b a ≡ t → precedes b a ≡ false
    go true q = absurd (absurd_test (sym (transitive a b a p q) ∙ irreflexive a))
    go false q = q

-- a text comes before the longer ones that start with it
pub prefix_precedes : (a : List ℕ) (x : ℕ) (b : List ℕ) → precedes a (a ++ x ∷ b) ≡ true
unfolding precedes
prefix_precedes [] x b = refl
prefix_precedes (y ∷ a) x b = same_head y y a (a ++ x ∷ b) refl ∙ prefix_precedes a x b

-- a front that both have decides nothing
pub front_same : (i : ℕ) (a b : List ℕ) → i ≤ length a → i ≤ length b → take i a ≡ take i b → precedes a b ≡ precedes (drop i a) (drop i b)
front_same zero a b ha hb e = refl
front_same (suc i) [] b ha hb e = absurd (omega arith)
front_same (suc i) (x ∷ a) [] ha hb e = absurd (omega arith)
front_same (suc i) (x ∷ a) (y ∷ b) ha hb e =
    same_head x y a b (ap (λ (l : List ℕ). get_or l 0 0) e) ∙ front_same i a b (omega arith) (omega arith) (ap (λ (l : List ℕ). drop 1 l) e)

-- ---- the loop

module _ (a b : List ℕ) (i : ℕ) where
  pub turn : i < length a → i < length b
      → precedes (drop i a) (drop i b) ≡ precedes (get_or a i 0 ∷ drop (i + 1) a) (get_or b i 0 ∷ drop (i + 1) b)
  turn ha hb = rw (add-one, drop-cons a i 0, drop-cons b i 0)

  module _ (ha : i < length a) (hb : i < length b) where
    pub turn_less : get_or a i 0 < get_or b i 0 → precedes (drop i a) (drop i b) ≡ true
    turn_less h = turn ha hb ∙ less_head _ _ _ _ h

    pub turn_more : get_or b i 0 < get_or a i 0 → precedes (drop i a) (drop i b) ≡ false
    turn_more h = turn ha hb ∙ more_head _ _ _ _ h

    pub turn_same : get_or a i 0 ≡ get_or b i 0 → precedes (drop i a) (drop i b) ≡ precedes (drop (i + 1) a) (drop (i + 1) b)
    turn_same e = turn ha hb ∙ same_head _ _ _ _ e

  -- b has ended
  pub end_right : i < length a → length b ≤ i → precedes (drop i a) (drop i b) ≡ false
  unfolding precedes
  end_right ha hb = rw (drop-cons a i 0, drop_of_length-le b hb)

  -- a has ended
  pub end_left : length a ≡ i → i ≤ length b → precedes (drop i a) (drop i b) ≡ ltb (length a) (length b)
  unfolding precedes
  end_left ha hb = go (ltb (length a) (length b)) refl
    where
      go : (t : Bool) → ltb (length a) (length b) ≡ t → precedes (drop i a) (drop i b) ≡ t
      go true e =
          let past : length a ≤ i = omega arith in
          let more : i < length b = omega (arith, ltb-true (length a) (length b) e) in
          rw (drop_of_length-le a past, drop-cons b i 0)
      go false e =
          let past : length a ≤ i = omega arith in
          let none : length b ≤ i = omega (arith, ltb-false (length a) (length b) e) in
          rw (drop_of_length-le a past, drop_of_length-le b none)

  -- two bytes that differ decide, and where one of the texts has ended their lengths
  pub turn_other : i < length a → i < length b → (get_or a i 0 ≡ get_or b i 0 → ⊥) → precedes (drop i a) (drop i b) ≡ ltb (get_or a i 0) (get_or b i 0)
  turn_other ha hb other = go (ltb (get_or a i 0) (get_or b i 0)) refl
    where
      go : (t : Bool) → ltb (get_or a i 0) (get_or b i 0) ≡ t → precedes (drop i a) (drop i b) ≡ t
      go true e = turn_less ha hb (ltb-true _ _ e)
      go false e =
          let least : get_or b i 0 ≤ get_or a i 0 = ltb-false _ _ e in
          turn_more ha hb (omega arith)

  pub ended : i ≤ length a → i ≤ length b → (i < length a → length b ≤ i) → precedes (drop i a) (drop i b) ≡ ltb (length a) (length b)
  ended ha hb over = on (lt_or_ge i (length a))
    where
      on : (i < length a) ⊎ (length a ≤ i) → precedes (drop i a) (drop i b) ≡ ltb (length a) (length b)
      on (inl more) = end_right more (over more) ∙ sym (le-ltb _ _ (omega (arith, over more)))
      on (inr past) = end_left (omega arith) hb
