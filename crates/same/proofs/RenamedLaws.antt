-- A table whose items have other numbers: f gives the number there of an item here. Order, hashes and laid indices are the same.
use mathlib.Core.Path.{◌≡◌, refl, sym, ap, ◌∙◌}
use mathlib.Core.Logic.{⊎_elim}
use mathlib.Core.List.{List, [], ◌∷◌, map}
use Prim.Native.Nat.{ℕ, ◌<◌}
use native.Mathlib.Omega.{arith}
use lib.ListN.{length, get_or, length-map}
use Rattle.words.proofs.ChoiceLaws.{pick_with}
use Rattle.key_hash.specs.Hash.{hash_by}
use Rattle.key_order.specs.Order.{precedes}
use Rattle.model.specs.Table.{Rows, times, Has}
use Rattle.image.specs.Index.{insert_key, sort_keys, key_order, hashes_of, by_bucket, by_index, item_of}
use Rattle.image.specs.Indexing.{Ascending}
use Rattle.image.proofs.TimesLaws.{times_here, times_cons, times_none, times_cons_same, has_cases}
use Rattle.image.proofs.OrderLaws.{times_swap, times_order, length_order, order_ascends, order_unique}
use Rattle.image.proofs.IndexLaws.{get_or_made, ranks_each}

pub record Renamed (f : ℕ → ℕ) (table other : Rows) : Type 0 where
  pub members : (x : ℕ) → times x (map f table.members) ≡ times x other.members
  pub key : (i : ℕ) → Has table.members i → other.key (f i) ≡ table.key i
  pub distinct : (x y : ℕ) → Has other.members x → Has other.members y → other.key x ≡ other.key y → x ≡ y

-- ---- what stands in a mapped list

pub record From (f : ℕ → ℕ) (l : List ℕ) (y : ℕ) : Type 0 where
  pub item : ℕ
  pub has : Has l item
  pub is : f item ≡ y

pub mapped_from : (f : ℕ → ℕ) (l : List ℕ) (y : ℕ) → Has (map f l) y → From f l y
mapped_from f [] y h = absurd (omega (arith, h, times_none y))
mapped_from f (x ∷ l) y h =
    ⊎_elim
    (λ e. record { item = x; has = omega (arith, times_here x x l refl); is = e })
    (λ r. let g = mapped_from f l y r in record { item = g.item; has = omega (arith, g.has, times_cons g.item x l); is = g.is })
    (has_cases (f x) y (map f l) h)

pub mapped_has : (f : ℕ → ℕ) (l : List ℕ) (x : ℕ) → Has l x → Has (map f l) (f x)
mapped_has f [] x h = absurd (omega (arith, h, times_none x))
mapped_has f (y ∷ l) x h =
    ⊎_elim (λ e. omega (arith, times_here (f x) (f y) (map f l) (ap f e))) (λ r. omega (arith, mapped_has f l x r, times_cons (f x) (f y) (map f l))) (has_cases y x l h)

-- ---- a sorted list, mapped

module _ (f : ℕ → ℕ) (table : Rows) where
  insert_mapped : (x i : ℕ) (l : List ℕ) → times x (map f (insert_key table i l)) ≡ times x (map f (i ∷ l))
  unfolding insert_key
  insert_mapped x i [] = refl
  insert_mapped x i (j ∷ l) =
      pick_with (λ (m : List ℕ). times x (map f m) ≡ times x (map f (i ∷ j ∷ l))) (precedes (table.key j) (table.key i)) (j ∷ insert_key table i l) (i ∷ j ∷ l)
      (λ _. times_swap x (f i) (f j) (map f l) (map f (insert_key table i l)) (insert_mapped x i l)) (λ _. refl)

  sort_mapped : (x : ℕ) (l : List ℕ) → times x (map f (sort_keys table l)) ≡ times x (map f l)
  unfolding sort_keys
  sort_mapped x [] = refl
  sort_mapped x (i ∷ l) = insert_mapped x i (sort_keys table l) ∙ times_cons_same x (f i) (map f (sort_keys table l)) (map f l) (sort_mapped x l)

-- ---- the order, the hashes, and the items by index

map_over : (f g h : ℕ → ℕ) (l : List ℕ) → ((x : ℕ) → Has l x → g (f x) ≡ h x) → map g (map f l) ≡ map h l
map_over f g h [] same = refl
map_over f g h (x ∷ l) same =
    let head : g (f x) ≡ h x = same x (omega (arith, times_here x x l refl)) in
    let rest : map g (map f l) ≡ map h l = map_over f g h l (λ y q. same y (omega (arith, q, times_cons y x l))) in
    cc

module _ (f : ℕ → ℕ) (table other : Rows) where
  ascending_mapped : (l : List ℕ) → ((i : ℕ) → Has l i → other.key (f i) ≡ table.key i) → Ascending table l → Ascending other (map f l)
  unfolding Ascending
  ascending_mapped [] same a = tt
  ascending_mapped (x ∷ l) same a =
      let here : other.key (f x) ≡ table.key x = same x (omega (arith, times_here x x l refl)) in (
        λ y h. let g = mapped_from f l y h in
            let key : other.key y ≡ table.key g.item = ap other.key (sym g.is) ∙ same g.item (omega (arith, g.has, times_cons g.item x l)) in
            rw (key, here) (a.0 g.item g.has),
        ascending_mapped l (λ i h. same i (omega (arith, h, times_cons i x l))) a.1,
      )

  module _ (r : Renamed f table other) where
    -- the key order there is the key order here, renamed
    pub order_renamed : key_order other ≡ map f (key_order table)
    unfolding key_order
    order_renamed =
        sym (order_unique other r.distinct (map f (key_order table))
        (ascending_mapped (key_order table) (λ i h. r.key i (rw (times_order table i) at h)) (order_ascends table))
        (λ x. sort_mapped f table x table.members ∙ r.members x))

    -- as many items
    pub count_renamed : length table.members ≡ length other.members
    count_renamed = sym (sym (length_order other) ∙ ap length order_renamed ∙ length-map (key_order table) f ∙ length_order table)

    module _ (rule : ℕ → ℕ) where
      pub hashes_renamed : hashes_of rule other ≡ hashes_of rule table
      unfolding hashes_of
      hashes_renamed =
          ap (map (λ (i : ℕ). hash_by rule (other.key i))) order_renamed
          ∙ map_over f (λ (i : ℕ). hash_by rule (other.key i)) (λ (i : ℕ). hash_by rule (table.key i)) (key_order table)
          (λ x h. ap (hash_by rule) (r.key x (rw (times_order table x) at h)))

      pub item_renamed : (k : ℕ) → k < length table.members → item_of rule other k ≡ f (item_of rule table k)
      unfolding item_of by_index
      item_renamed k l =
          let e = ranks_each rule table in
          get_or_made (λ (q : ℕ). get_or (key_order other) q 0) (by_bucket (hashes_of rule other)) k (omega (arith, (ranks_each rule other).size, count_renamed))
          ∙ ap (λ (m : List ℕ). get_or (key_order other) (get_or (by_bucket m) k 0) 0) hashes_renamed
          ∙ ap (λ (m : List ℕ). get_or m (get_or (by_bucket (hashes_of rule table)) k 0) 0) order_renamed
          ∙ get_or_made f (key_order table) (get_or (by_bucket (hashes_of rule table)) k 0) (omega (arith, e.within k l, length_order table))
          ∙ ap f (sym (get_or_made (λ (q : ℕ). get_or (key_order table) q 0) (by_bucket (hashes_of rule table)) k (omega (arith, e.size))))
