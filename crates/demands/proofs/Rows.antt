-- What the items of a memory hold under a key, as an item of the table that the image is laid of.
use Prim.Native.Nat.{ℕ, zero, suc, ◌<◌}
use mathlib.Core.Path.{◌≡◌, refl, sym, ◌∙◌}
use mathlib.Core.Bool.{Bool, true, false}
use mathlib.Core.List.{List, [], ◌∷◌}
use native.Mathlib.Omega.{arith}
use lib.ListN.{length}
use Rattle.words.specs.Choice.{pick}
use Rattle.model.specs.Table.{Content, Entry, entry_at, Has, rows_of}
use Rattle.build_memory.specs.Memory.{item_total}
use Rattle.build_memory.specs.Meaning.{meaning}
use Rattle.write_numbers.specs.Roster.{state_of}
use Rattle.write_numbers.proofs.StateLaws.{state_below, state_table, state_has}
use Rattle.write_slots.proofs.StateLaws.{table_is, total_is}
use Rattle.demands.specs.Last.{Held}
use Rattle.demands.proofs.HeldLaws.{held_in, hit, hit_same, hit_is}

-- ---- in a list of items

record Found (items : List Entry) (t : ℕ) (k : List ℕ) (c : Content) : Type 0 where
  pub index : ℕ
  pub below : index < length items
  pub table : (entry_at items index).table ≡ t
  pub key : (entry_at items index).key ≡ k
  pub content : (entry_at items index).content ≡ c

found_later : (e : Entry) (items : List Entry) (t : ℕ) (k : List ℕ) (c : Content) → Found items t k c → Found (e ∷ items) t k c
unfolding entry_at
found_later e items t k c f = record { index = suc f.index; below = omega (arith, f.below); table = f.table; key = f.key; content = f.content }

found : (items : List Entry) (t : ℕ) (k : List ℕ) (c : Content) → held_in items t k ≡ Held.holds c → Found items t k c
unfolding held_in pick entry_at
found [] t k c is = absurd (let z : ◌≡◌ {A = ℕ} 0 1 = cc in omega arith)
found (e ∷ items) t k c is = by (hit e.table e.key t k) refl is (λ rest. found_later e items t k c (found items t k c rest))
  where
    by : (b : Bool) → hit e.table e.key t k ≡ b → pick b (Held.holds e.content) (held_in items t k) ≡ Held.holds c
        → (held_in items t k ≡ Held.holds c → Found (e ∷ items) t k c) → Found (e ∷ items) t k c
    by true h q later =
        let same = hit_same e.table e.key t k h in
        let z : e.content ≡ c = cc in
        record { index = 0; below = omega arith; table = same.0; key = same.1; content = z }
    by false h q later = later q

abbrev Missing : List Entry → ℕ → List ℕ → Type 0
Missing items t k = (i : ℕ) → i < length items → (entry_at items i).table ≡ t → (entry_at items i).key ≡ k → ⊥

missing_on : (e : Entry) (items : List Entry) (t : ℕ) (k : List ℕ) → hit e.table e.key t k ≡ false → Missing items t k → Missing (e ∷ items) t k
unfolding entry_at
missing_on e items t k not-hit rest zero l a b = let z : ◌≡◌ {A = ℕ} 0 1 = let y : true ≡ false = sym (hit_is e.table e.key t k a b) ∙ not-hit in cc in omega arith
missing_on e items t k not-hit rest (suc i) l a b = rest i (omega arith) a b

missing : (items : List Entry) (t : ℕ) (k : List ℕ) → held_in items t k ≡ Held.nothing → Missing items t k
unfolding held_in pick
missing [] t k is = λ i l a b. omega arith
missing (e ∷ items) t k is = by (hit e.table e.key t k) refl is (missing items t k)
  where
    by : (b : Bool) → hit e.table e.key t k ≡ b → pick b (Held.holds e.content) (held_in items t k) ≡ Held.nothing
        → (held_in items t k ≡ Held.nothing → Missing items t k) → Missing (e ∷ items) t k
    by true h q later = absurd (let z : ◌≡◌ {A = ℕ} 0 1 = cc in omega arith)
    by false h q later = missing_on e items t k h (later q)

-- ---- in a table of the memory

-- the item of table t with key k, which holds c
pub record ItemOf (ws ar : List ℕ) (t : ℕ) (k : List ℕ) (c : Content) : Type 0 where
  pub item : ℕ
  pub has : Has (state_of ws ar t).members item
  pub key : (state_of ws ar t).key item ≡ k
  pub content : (state_of ws ar t).content item ≡ c

module _ (ws ar : List ℕ) (t : ℕ) (k : List ℕ) where
  pub item_of_lem : (c : Content) → held_in (meaning ws ar).items t k ≡ Held.holds c → ItemOf ws ar t k c
  unfolding state_of rows_of
  item_of_lem c is =
      let f = found (meaning ws ar).items t k c is in
      let l : f.index < item_total ws = omega (arith, f.below, total_is ws ar) in
      record { item = f.index; has = state_has ws ar t f.index l (sym (table_is ws ar f.index l) ∙ f.table); key = f.key; content = f.content }

  pub no_item : held_in (meaning ws ar).items t k ≡ Held.nothing → (i : ℕ) → Has (state_of ws ar t).members i → (state_of ws ar t).key i ≡ k → ⊥
  unfolding state_of rows_of
  no_item is i has key =
      let l = state_below ws ar t i has in
      missing (meaning ws ar).items t k is i (omega (arith, total_is ws ar)) (table_is ws ar i l ∙ state_table ws ar t i has) key
