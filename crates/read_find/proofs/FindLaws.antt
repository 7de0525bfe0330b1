-- Laws about finding an item, for every manner of reading: one turn of the search and its end, and what the search says of every position
-- of the run.
use Rattle.std.specs.Prelude.{Option, Some, None}
use Prim.Native.Nat.{ℕ, zero, suc, ◌+◌, ◌-◌, ◌%◌, ◌≤◌, ◌<◌}
use mathlib.Core.Path.{◌≡◌, refl, sym, ap, subst, ◌∙◌}
use mathlib.Core.List.{List}
use mathlib.Core.Bool.{Bool, true, false}
use native.Mathlib.Omega.{arith}
use lib.Dec.{leb, eqb}
use borrow.Author.Tests.{leb-true, leb-false, le-leb, lt-leb, eqb-true, eqb-false, eq-eqb}
use Rattle.words.specs.Choice.{pick}
use Rattle.key_hash.specs.Hash.{hash_by}
use Rattle.words.proofs.ChoiceLaws.{pick_with}
use Rattle.layout.specs.declared.table.Table.{Table}
use Rattle.layout.specs.Item.{item_at}
use Rattle.read_find.specs.declared.find.Run.{Run}
use Rattle.read_chain.specs.Chain.{Joined, key_of, names}
use Rattle.read_find.specs.Find.{Manner, bloom_passes, run_of, item_matches, first_from, first_of, find_item}
use Rattle.read_chain.proofs.ChainLaws.{names-joined, joined-names}

-- ---- the search of a run

-- one turn of a search that has g to say, by what the test answers at its position, and its end
module _ (test : ℕ → Bool) (count last at : ℕ) {g : Option ℕ} (inv : first_from test count (last - at) at ≡ g) where
  module _ (here : at < last) where
    turn : pick (leb count at) None (pick (test at) (Some at) (first_from test count (last - (at + 1)) (at + 1))) ≡ g
    unfolding first_from
    turn = let e : last - at ≡ suc (last - (at + 1)) = omega arith in rw e at inv

    pub first_past : count ≤ at → None ≡ g
    unfolding pick
    first_past h = rw (le-leb _ _ h) at turn

    module _ (item : at < count) {told : Bool} (is : told ≡ test at) where
      pub first_hit : told ≡ true → Some at ≡ g
      unfolding pick
      first_hit e = rw (lt-leb _ _ item, ← is, e) at turn

      pub first_on : told ≡ false → first_from test count (last - (at + 1)) (at + 1) ≡ g
      unfolding pick
      first_on e = rw (lt-leb _ _ item, ← is, e) at turn

  pub first_over : last ≤ at → None ≡ g
  unfolding first_from
  first_over h = let e : last - at ≡ 0 = omega arith in rw e at inv

-- what is found passes the test and is the first that does; where nothing is, none of the positions that are items passes it
unfoldable pub FirstSays : (ℕ → Bool) → ℕ → ℕ → ℕ → Option ℕ → Type 0
FirstSays test count more at (Some i) =
    (i < count) × (at ≤ i) × (i < at + more) × (test i ≡ true) × ((k : ℕ) → at ≤ k → k < i → test k ≡ false)
FirstSays test count more at None = (k : ℕ) → at ≤ k → k < at + more → k < count → test k ≡ false

-- a position that does not pass, put before the others
passed_over : (test : ℕ → Bool) (at : ℕ) → test at ≡ false → (k : ℕ) → at ≤ k → (at + 1 ≤ k → test k ≡ false) → test k ≡ false
passed_over test at miss k from rest = by (eqb k at) refl
  where
    by : (q : Bool) → eqb k at ≡ q → test k ≡ false
    by true e = ap test (eqb-true k at e) ∙ miss
    by false e =
        let other : (k ≡ at → ⊥) = eqb-false k at e in
        rest (omega arith)

says_more : (test : ℕ → Bool) (count more at : ℕ) (f : Option ℕ) → test at ≡ false → FirstSays test count more (at + 1) f → FirstSays test count (suc more) at f
unfolding FirstSays
says_more test count more at (Some i) miss (below, from, to, hit, before) =
    (below, omega arith, omega arith, hit, λ k l h. passed_over test at miss k l (λ m. before k m h))
says_more test count more at None miss none =
    λ k l h items. passed_over test at miss k l (λ m. none k m (omega arith) items)

pub first_says : (test : ℕ → Bool) (count more at : ℕ) → FirstSays test count more at (first_from test count more at)
unfolding first_from FirstSays
first_says test count zero at = λ k l h items. absurd (omega arith)
first_says test count (suc more) at =
    pick_with (FirstSays test count (suc more) at) (leb count at) _ _
    (λ past. let p : count ≤ at = leb-true _ _ past in λ k l h items. absurd (omega arith))
    (λ here. pick_with (FirstSays test count (suc more) at) (test at) _ _
    (λ hit. let b : at < count = leb-false _ _ here in (b, omega arith, omega arith, hit, λ k l h. absurd (omega arith)))
    (λ miss. says_more test count more at (first_from test count more (at + 1)) miss (first_says test count more (at + 1))))

-- ---- what is found, and what is not

unfoldable pub FindSays : Manner → List ℕ → Table → List ℕ → Run → Option ℕ → Type 0
FindSays manner file t key run (Some i) =
    (i < t.count) × (run.first ≤ i) × (i < run.last) × (item_matches manner file t key i ≡ true)
    × ((k : ℕ) → run.first ≤ k → k < i → item_matches manner file t key k ≡ false)
FindSays manner file t key run None =
    (t.buckets ≡ 0 → ⊥) → bloom_passes manner.shift file t (hash_by manner.byte key) ≡ true
    → (k : ℕ) → run.first ≤ k → k < run.last → k < t.count → item_matches manner file t key k ≡ false

run-says : (manner : Manner) (file : List ℕ) (t : Table) (key : List ℕ) (run : Run) (f : Option ℕ)
    → FirstSays (item_matches manner file t key) t.count (run.last - run.first) run.first f → FindSays manner file t key run f
unfolding FirstSays FindSays
run-says manner file t key run (Some i) (below, from, to, hit, before) = (below, from, omega arith, hit, before)
run-says manner file t key run None none = λ some passes k l h items. none k l (omega arith) items

pub find_says : (manner : Manner) (file : List ℕ) (t : Table) (key : List ℕ)
    → FindSays manner file t key (run_of file t (hash_by manner.byte key % t.buckets)) (find_item manner file t key)
unfolding find_item first_of FindSays
find_says manner file t key =
    let run : Run = run_of file t (hash_by manner.byte key % t.buckets) in
    let P : Option ℕ → Type 0 = FindSays manner file t key run in
    pick_with P _ _ _ (λ none. λ some. absurd (some (eqb-true _ _ none)))
    (λ _. pick_with P _ _ _ (λ none some passes k l h items. let z : t.count ≡ 0 = eqb-true _ _ none in absurd (omega arith))
    (λ _. pick_with P _ _ _ (λ _. run-says manner file t key run _ (first_says _ _ _ _))
    (λ shut some passes. let z : ◌≡◌ {A = ℕ} 0 1 = cc in absurd (omega arith))))

-- an item that is found is an item of the table
pub found_below : (manner : Manner) (file : List ℕ) (t : Table) (key : List ℕ) {found : Option ℕ} {index : ℕ} → found ≡ find_item manner file t key → found ≡ Some index → index < t.count
unfolding FindSays
found_below manner file t key finds at = (subst (FindSays manner file t key _) (sym finds ∙ at) (find_says manner file t key)).0

-- ---- an item matches just where its hash is the key's and its chain joins the key

pub match_true : (manner : Manner) (file : List ℕ) (t : Table) (key : List ℕ) (i : ℕ) → item_matches manner file t key i ≡ true
    → ((item_at file t i).hash ≡ hash_by manner.byte key) × (key_of file t t.count i ≡ Joined.joined key)
unfolding item_matches
match_true manner file t key i =
    pick_with (λ (q : Bool). q ≡ true → ((item_at file t i).hash ≡ hash_by manner.byte key) × (key_of file t t.count i ≡ Joined.joined key)) _ _ _
    (λ same e. (eqb-true _ _ same, names-joined _ _ e))
    (λ _ e. let z : ◌≡◌ {A = ℕ} 0 1 = cc in absurd (omega arith))

pub match_false : (manner : Manner) (file : List ℕ) (t : Table) (key : List ℕ) (i : ℕ) → item_matches manner file t key i ≡ false
    → (item_at file t i).hash ≡ hash_by manner.byte key → key_of file t t.count i ≡ Joined.joined key → ⊥
unfolding item_matches pick
match_false manner file t key i miss same key_is =
    let hit : pick (eqb (item_at file t i).hash (hash_by manner.byte key)) (names (key_of file t t.count i) key) false ≡ true =
    rw (eq-eqb _ _ same) (joined-names _ _ key_is) in
    let z : ◌≡◌ {A = ℕ} 0 1 = cc in omega arith
