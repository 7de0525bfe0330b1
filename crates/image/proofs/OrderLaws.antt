-- The key order holds each item once, ascends, and is the only list that does.
use mathlib.Core.Path.{◌≡◌, refl, sym, ap, ◌∙◌}
use mathlib.Core.Logic.{⊎_elim}
use mathlib.Core.Bool.{Bool, true, false}
use mathlib.Core.List.{List, [], ◌∷◌}
use Prim.Native.Nat.{ℕ, zero, suc, ◌<◌}
use native.Mathlib.Omega.{arith}
use lib.ListN.{length, get_or}
use Rattle.words.proofs.ChoiceLaws.{pick_with, clash, eq_or_ne}
use Rattle.key_order.specs.Order.{precedes}
use Rattle.key_order.proofs.OrderLaws.{transitive, total, asymmetric}
use Rattle.model.specs.Table.{Rows, times, Has}
use Rattle.image.specs.Index.{insert_key, sort_keys, key_order}
use Rattle.image.specs.Indexing.{Ascending}
use Rattle.image.proofs.TimesLaws.{times_here, times_there, times_cons, times_cons_same, times_some, has_cases}

-- ---- what does not come before, and again not, does not come before

pub not-before : (a b c : List ℕ) → precedes b a ≡ false → precedes c b ≡ false → precedes c a ≡ false
not-before a b c p q = by (precedes c a) refl (precedes a b) refl
  where
    by : (t : Bool) → precedes c a ≡ t → (u : Bool) → precedes a b ≡ u → precedes c a ≡ false
    by false e u f = e
    by true e true f = clash (sym (transitive c a b e f) ∙ q)
    by true e false f = clash (sym e ∙ ap (precedes c) (total a b f p) ∙ q)

-- ---- sorting keeps the items

pub times_swap : (x a b : ℕ) (l m : List ℕ) → times x m ≡ times x (a ∷ l) → times x (b ∷ m) ≡ times x (a ∷ b ∷ l)
times_swap x a b l m e =
    ⊎_elim
    (λ p. ⊎_elim
    (λ q. omega (arith, times_here x b m p, times_here x a (b ∷ l) q, times_here x b l p, times_here x a l q))
    (λ q. omega (arith, times_here x b m p, times_there x a (b ∷ l) q, times_here x b l p, times_there x a l q))
    (eq_or_ne a x))
    (λ p. ⊎_elim
    (λ q. omega (arith, times_there x b m p, times_here x a (b ∷ l) q, times_there x b l p, times_here x a l q))
    (λ q. omega (arith, times_there x b m p, times_there x a (b ∷ l) q, times_there x b l p, times_there x a l q))
    (eq_or_ne a x))
    (eq_or_ne b x)

module _ (table : Rows) where
  pub times_insert : (x i : ℕ) (l : List ℕ) → times x (insert_key table i l) ≡ times x (i ∷ l)
  unfolding insert_key
  times_insert x i [] = refl
  times_insert x i (j ∷ l) =
      pick_with (λ (m : List ℕ). times x m ≡ times x (i ∷ j ∷ l)) (precedes (table.key j) (table.key i)) (j ∷ insert_key table i l) (i ∷ j ∷ l)
      (λ _. times_swap x i j l (insert_key table i l) (times_insert x i l)) (λ _. refl)

  length_insert : (i : ℕ) (l : List ℕ) → length (insert_key table i l) ≡ suc (length l)
  unfolding insert_key
  length_insert i [] = refl
  length_insert i (j ∷ l) =
      pick_with (λ (m : List ℕ). length m ≡ suc (suc (length l))) (precedes (table.key j) (table.key i)) (j ∷ insert_key table i l) (i ∷ j ∷ l)
      (λ _. ap suc (length_insert i l)) (λ _. refl)

  pub length_sort : (l : List ℕ) → length (sort_keys table l) ≡ length l
  unfolding sort_keys
  length_sort [] = refl
  length_sort (i ∷ l) = length_insert i (sort_keys table l) ∙ ap suc (length_sort l)

  pub times_sort : (x : ℕ) (l : List ℕ) → times x (sort_keys table l) ≡ times x l
  unfolding sort_keys
  times_sort x [] = refl
  times_sort x (i ∷ l) = times_insert x i (sort_keys table l) ∙ times_cons_same x i (sort_keys table l) l (times_sort x l)

  pub length_order : length (key_order table) ≡ length table.members
  unfolding key_order
  length_order = length_sort table.members

  pub times_order : (x : ℕ) → times x (key_order table) ≡ times x table.members
  unfolding key_order
  times_order x = times_sort x table.members

  -- ---- it ascends

  insert_ascends : (i : ℕ) (l : List ℕ) → Ascending table l → Ascending table (insert_key table i l)
  unfolding insert_key Ascending times
  insert_ascends i [] a = ((λ y h. absurd (omega arith)), tt)
  insert_ascends i (j ∷ l) a =
      pick_with (Ascending table) (precedes (table.key j) (table.key i)) (j ∷ insert_key table i l) (i ∷ j ∷ l)
      (λ e. (
        (λ y h. ⊎_elim (λ q. rw (← q) (asymmetric (table.key j) (table.key i) e)) (λ m. a.0 y m) (has_cases i y l (rw (times_insert y i l) at h))),
        insert_ascends i l a.1,
      ))
      (λ f. (
        (λ y h. ⊎_elim (λ q. rw (← q) f) (λ m. not-before (table.key i) (table.key j) (table.key y) f (a.0 y m)) (has_cases j y l h)),
        a,
      ))

  pub sort_ascends : (l : List ℕ) → Ascending table (sort_keys table l)
  unfolding sort_keys Ascending
  sort_ascends [] = tt
  sort_ascends (i ∷ l) = insert_ascends i (sort_keys table l) (sort_ascends l)

  pub order_ascends : Ascending table (key_order table)
  unfolding key_order
  order_ascends = sort_ascends table.members

  -- of two items in an ascending list the later one's key does not come before
  pub ascends_at : (l : List ℕ) → Ascending table l → (j k : ℕ) → j < k → k < length l → precedes (table.key (get_or l k 0)) (table.key (get_or l j 0)) ≡ false
  unfolding Ascending
  ascends_at [] a j k less h = absurd (omega arith)
  ascends_at (x ∷ l) a j zero less h = absurd (omega arith)
  ascends_at (x ∷ l) a zero (suc k) less h = a.0 (get_or l k 0) (times_some (get_or l k 0) l k (omega arith) refl)
  ascends_at (x ∷ l) a (suc j) (suc k) less h = ascends_at l a.1 j k (omega arith) (omega arith)

  -- ---- no other list does

  -- two ascending lists of the same items are one, if their keys differ
  pub ascending_once : (l m : List ℕ) → Ascending table l → Ascending table m → ((x : ℕ) → times x l ≡ times x m)
      → ((x y : ℕ) → Has l x → Has l y → table.key x ≡ table.key y → x ≡ y) → l ≡ m
  unfolding Ascending times
  ascending_once [] [] a b same distinct = refl
  ascending_once [] (y ∷ m) a b same distinct = absurd (omega (arith, same y, times_here y y m refl))
  ascending_once (x ∷ l) [] a b same distinct = absurd (omega (arith, same x, times_here x x l refl))
  ascending_once (x ∷ l) (y ∷ m) a b same distinct =
      let e : x ≡ y = ⊎_elim (λ q. q)
      (λ n. let in-m : Has m x = omega (arith, same x, times_here x x l refl, times_there x y m (λ q. n (sym q))) in
      let in-l : Has l y = omega (arith, same y, times_here y y m refl, times_there y x l n) in
      distinct x y (omega (arith, times_here x x l refl)) (omega (arith, times_cons y x l)) (total (table.key x) (table.key y) (b.0 x in-m) (a.0 y in-l)))
      (eq_or_ne x y) in
      let rest : l ≡ m = ascending_once l m a.1 b.1
      (λ z. ⊎_elim
      (λ q. omega (arith, same z, times_here z x l q, times_here z y m (sym e ∙ q)))
      (λ n. omega (arith, same z, times_there z x l n, times_there z y m (λ q. n (e ∙ q))))
      (eq_or_ne x z))
      (λ u v p q. distinct u v (omega (arith, times_cons u x l)) (omega (arith, times_cons v x l))) in
      cc

  -- whatever ascending list of the members a sort gives, it is the key order
  pub order_unique : ((x y : ℕ) → Has table.members x → Has table.members y → table.key x ≡ table.key y → x ≡ y)
      → (l : List ℕ) → Ascending table l → ((x : ℕ) → times x l ≡ times x table.members) → l ≡ key_order table
  order_unique distinct l a same =
      ascending_once l (key_order table) a order_ascends (λ x. same x ∙ sym (times_order x)) (λ x y p q. distinct x y (rw (same x) at p) (rw (same y) at q))

-- ---- only the keys of the items count

module _ (table other : Rows) where
  insert_same : (i : ℕ) (l : List ℕ) → ((x : ℕ) → Has (i ∷ l) x → table.key x ≡ other.key x) → insert_key table i l ≡ insert_key other i l
  unfolding insert_key
  insert_same i [] same = refl
  insert_same i (j ∷ l) same =
      let ki : table.key i ≡ other.key i = same i (omega (arith, times_here i i (j ∷ l) refl)) in
      let kj : table.key j ≡ other.key j = same j (omega (arith, times_cons j i (j ∷ l), times_here j j l refl)) in
      let rest : insert_key table i l ≡ insert_key other i l = insert_same i l (λ x h. same x (⊎_elim
      (λ e. omega (arith, times_here x i (j ∷ l) e))
      (λ m. omega (arith, times_cons x i (j ∷ l), times_cons x j l))
      (has_cases i x l h))) in
      rw (ki, kj, rest)

  pub sort_same : (l : List ℕ) → ((x : ℕ) → Has l x → table.key x ≡ other.key x) → sort_keys table l ≡ sort_keys other l
  unfolding sort_keys
  sort_same [] same = refl
  sort_same (i ∷ l) same =
      rw (sort_same l (λ x h. same x (omega (arith, times_cons x i l))))
      (insert_same i (sort_keys other l) (λ x h. same x (rw (times_cons_same x i (sort_keys other l) l (times_sort other x l)) at h)))

  -- two tables with the same items and keys have one key order
  pub order_same : table.members ≡ other.members → ((x : ℕ) → Has table.members x → table.key x ≡ other.key x) → key_order table ≡ key_order other
  unfolding key_order
  order_same e same = sort_same table.members same ∙ ap (sort_keys other) e
