-- What a list of items holds under a key: an item more, an item replaced, and the way of an insert along the prefixes of its key.
use Prim.Native.Nat.{ℕ, suc, ◌+◌, ◌<◌}
use mathlib.Core.Path.{◌≡◌, refl, sym, ap, ◌∙◌}
use mathlib.Core.Bool.{Bool, true, false, ◌&&◌}
use mathlib.Core.List.{List, [], ◌∷◌, ◌++◌}
use native.Mathlib.Omega.{arith}
use borrow.Author.Tests.{eqb-true, eq-eqb, ltb-true, ltb-false}
use lib.Dec.{eqb}
use lib.ListN.{length, set}
use Rattle.words.specs.Choice.{pick}
use Rattle.words.proofs.ChoiceLaws.{both, both_hold}
use Rattle.key_order.specs.Compare.{same_bytes}
use Rattle.key_order.proofs.CompareLaws.{same_equal, equal_same}
use Rattle.model.specs.Table.{Content, Entry, entry_at}
use Rattle.model.specs.Walk.{find_key, is_there, entry}
use Rattle.demands.specs.Last.{Held, or_else}

-- what the items hold under key k of table t: what the first item of that table and key holds
unfoldable pub held_in : List Entry → ℕ → List ℕ → Held
held_in [] t k = Held.nothing
held_in (e ∷ items) t k = pick (eqb e.table t && same_bytes e.key k) (Held.holds e.content) (held_in items t k)

-- key `key` of table u is key k of table t
abbrev pub hit : ℕ → List ℕ → ℕ → List ℕ → Bool
hit u key t k = eqb u t && same_bytes key k

pub or_nothing : (h : Held) → or_else h Held.nothing ≡ h
unfolding or_else
or_nothing Held.nothing = refl
or_nothing (Held.holds c) = refl

-- ---- an item more

pub held_snoc : (items : List Entry) (x : Entry) (t : ℕ) (k : List ℕ)
    → held_in (items ++ (x ∷ [])) t k ≡ or_else (held_in items t k) (pick (hit x.table x.key t k) (Held.holds x.content) Held.nothing)
unfolding held_in or_else pick
held_snoc [] x t k = refl
held_snoc (e ∷ items) x t k = by (hit e.table e.key t k) (held_snoc items x t k)
  where
    by : (b : Bool) → held_in (items ++ (x ∷ [])) t k ≡ or_else (held_in items t k) (pick (hit x.table x.key t k) (Held.holds x.content) Held.nothing)
        → pick b (Held.holds e.content) (held_in (items ++ (x ∷ [])) t k)
        ≡ or_else (pick b (Held.holds e.content) (held_in items t k)) (pick (hit x.table x.key t k) (Held.holds x.content) Held.nothing)
    by true rest = refl
    by false rest = rest

-- ---- found

-- a key that is there is held, and one that is not is not
held_there : (items : List Entry) (t : ℕ) (k : List ℕ) → find_key items t k < length items → held_in items t k ≡ Held.holds (entry_at items (find_key items t k)).content
unfolding held_in find_key pick entry_at
held_there [] t k h = absurd (omega arith)
held_there (e ∷ items) t k h = by (hit e.table e.key t k) h (held_there items t k)
  where
    by : (b : Bool) → pick b 0 (suc (find_key items t k)) < suc (length items)
        → (find_key items t k < length items → held_in items t k ≡ Held.holds (entry_at items (find_key items t k)).content)
        → pick b (Held.holds e.content) (held_in items t k) ≡ Held.holds (entry_at (e ∷ items) (pick b 0 (suc (find_key items t k)))).content
    by true l rest = refl
    by false l rest = rest (omega arith)

held_none : (items : List Entry) (t : ℕ) (k : List ℕ) → length items < suc (find_key items t k) → held_in items t k ≡ Held.nothing
unfolding held_in find_key pick
held_none [] t k h = refl
held_none (e ∷ items) t k h = by (hit e.table e.key t k) h (held_none items t k)
  where
    by : (b : Bool) → suc (length items) < suc (pick b 0 (suc (find_key items t k)))
        → (length items < suc (find_key items t k) → held_in items t k ≡ Held.nothing) → pick b (Held.holds e.content) (held_in items t k) ≡ Held.nothing
    by true l rest = absurd (omega arith)
    by false l rest = rest (omega arith)

pub there_holds : (items : List Entry) (t : ℕ) (k : List ℕ) → is_there items t k ≡ true → held_in items t k ≡ Held.holds (entry_at items (find_key items t k)).content
there_holds items t k h = held_there items t k (ltb-true _ _ h)

pub not_there : (items : List Entry) (t : ℕ) (k : List ℕ) → is_there items t k ≡ false → held_in items t k ≡ Held.nothing
not_there items t k h = held_none items t k (omega (arith, ltb-false (find_key items t k) (length items) h))

-- ---- an item replaced

-- keys that are hit are the same
pub hit_same : (u : ℕ) (key : List ℕ) (t : ℕ) (k : List ℕ) → hit u key t k ≡ true → (u ≡ t) × (key ≡ k)
hit_same u key t k h = let b = both (eqb u t) (same_bytes key k) h in (eqb-true u t b.0, same_equal key k b.1)

-- and the same are hit
pub hit_is : (u : ℕ) (key : List ℕ) (t : ℕ) (k : List ℕ) → u ≡ t → key ≡ k → hit u key t k ≡ true
hit_is u key t k a b = both_hold (eq-eqb u t a) (equal_same key k b)

-- of one key, another is not hit where the key hits it not
hit_other : (v : ℕ) (name : List ℕ) (u : ℕ) (key : List ℕ) (t : ℕ) (k : List ℕ) → hit v name u key ≡ false → hit v name t k ≡ true → hit u key t k ≡ false
hit_other v name u key t k no_hit is = by (hit u key t k) refl
  where
    by : (b : Bool) → hit u key t k ≡ b → b ≡ false
    by true q =
        let a = hit_same v name t k is in
        let b = hit_same u key t k q in
        let here : hit v name u key ≡ true = rw b.0 (rw b.1 is) in
        let z : ◌≡◌ {A = Bool} true false = sym here ∙ no_hit in cc
    by false q = refl

pick_again : {A : Type 0} (b : Bool) (x y z : A) → pick b x z ≡ pick b x (pick b y z)
unfolding pick
pick_again true x y z = refl
pick_again false x y z = refl

pick_over : {A : Type 0} (b c : Bool) (x y z : A) → (b ≡ true → c ≡ false) → pick b y (pick c x z) ≡ pick c x (pick b y z)
unfolding pick
pick_over true true x y z n = let q : ◌≡◌ {A = Bool} true false = n refl in cc
pick_over true false x y z n = refl
pick_over false true x y z n = refl
pick_over false false x y z n = refl

pub held-set : (items : List Entry) (u : ℕ) (key : List ℕ) (content : Content) (above t : ℕ) (k : List ℕ) → find_key items u key < length items
    → held_in (set items (find_key items u key) (entry u key content above)) t k ≡ pick (hit u key t k) (Held.holds content) (held_in items t k)
unfolding held_in find_key pick
held-set [] u key content above t k h = absurd (omega arith)
held-set (e ∷ items) u key content above t k h = by (hit e.table e.key u key) refl h (held-set items u key content above t k)
  where
    by : (b : Bool) → hit e.table e.key u key ≡ b → pick b 0 (suc (find_key items u key)) < suc (length items)
        → (find_key items u key < length items
        → held_in (set items (find_key items u key) (entry u key content above)) t k ≡ pick (hit u key t k) (Held.holds content) (held_in items t k))
        → held_in (set (e ∷ items) (pick b 0 (suc (find_key items u key))) (entry u key content above)) t k
        ≡ pick (hit u key t k) (Held.holds content) (pick (hit e.table e.key t k) (Held.holds e.content) (held_in items t k))
    by true is l rest =
        let same = hit_same e.table e.key u key is in
        let q : hit e.table e.key t k ≡ hit u key t k = rw same.0 (rw same.1 refl) in
        pick_again (hit u key t k) (Held.holds content) (Held.holds e.content) (held_in items t k)
        ∙ ap (λ (b : Bool). pick (hit u key t k) (Held.holds content) (pick b (Held.holds e.content) (held_in items t k))) (sym q)
    by false is l rest =
        ap (pick (hit e.table e.key t k) (Held.holds e.content)) (rest (omega arith))
        ∙ pick_over (hit e.table e.key t k) (hit u key t k) (Held.holds content) (Held.holds e.content) (held_in items t k)
        (hit_other e.table e.key u key t k is)
