-- Each rule in words: what its test says, both ways.
use Rattle.std.specs.Prelude.{Result, Ok, Err, Option, Some, None}
use Rattle.layout.specs.declared.refusal.Refusal.{Refusal}
use Prim.Native.Nat.{ℕ, ◌-◌, ◌%◌, ◌≤◌, ◌<◌}
use mathlib.Core.Path.{◌≡◌, refl, ap}
use mathlib.Core.Logic.{◌⊎◌, inl, inr}
use mathlib.Core.List.{List}
use mathlib.Core.Bool.{Bool, true, false, not}
use native.Mathlib.Omega.{arith}
use lib.ListN.{length}
use lib.Dec.{eqb, ltb}
use borrow.Author.Tests.{eqb-true, eq-eqb, ne_eqb, ltb-true, ltb-false, lt-ltb, not-true}
use Rattle.words.specs.Choice.{pick}
use Rattle.words.specs.Below.{all_below}
use Rattle.words.proofs.ChoiceLaws.{pick_with, both}
use Rattle.words.proofs.BelowLaws.{all_below_lem, some_below_lem, below_some}
use Rattle.layout.specs.declared.table.Table.{Table}
use Rattle.layout.specs.declared.item.Item.{Item}
use Rattle.layout.specs.Kind.{kind_known}
use Rattle.layout.specs.Pointer.{open_pointer}
use Rattle.layout.specs.Table.{InFile}
use Rattle.layout.specs.Item.{item_at}
use Rattle.read_chain.specs.Chain.{Joined, key_of, parent_of}
use Rattle.read_listing.specs.Children.{child_at, child_count}
use Rattle.check_rules.specs.Rules.{is_joined, key_lists, index_of, sought_at, is_at, key_finds, is_inside, is_table, list_opens, value_opens, among, child_good, children_good, lists_it, parent_keeps}
use Rattle.check_table.specs.Sound.{ValueGood}
use Rattle.read_find.specs.Find.{Manner}
use Rattle.check_rules.proofs.ChildLaws.{three}

-- rules 1 and 2: the key reads, and is looked up as this very item
is_at_lem : (i : ℕ) (f : Option ℕ) → is_at i f ≡ true → f ≡ Some i
unfolding is_at
is_at_lem i (Some found) e = ap Some (eqb-true found i e)
is_at_lem i None e = cc

at_is : (i : ℕ) {f : Option ℕ} → f ≡ Some i → is_at i f ≡ true
unfolding is_at
at_is i e = rw e (eq-eqb i i refl)

pub key_reads : (manner : Manner) (file : List ℕ) (t : Table) (i : ℕ) (j : Joined) → key_of file t t.count i ≡ j → is_joined j ≡ true → is_at i (sought_at manner file t j) ≡ true
    → (key : List ℕ) × (key_of file t t.count i ≡ Joined.joined key) × (index_of manner file t key ≡ Some i)
unfolding is_joined sought_at
key_reads manner file t i (Joined.joined key) is reads found = (key, is, is_at_lem i (index_of manner file t key) found)
key_reads manner file t i (Joined.broken why) is reads found = let z : ◌≡◌ {A = ℕ} 0 1 = cc in absurd (omega arith)

pub reads_lists : (file : List ℕ) (t : Table) (i : ℕ) {key : List ℕ} → key_of file t t.count i ≡ Joined.joined key → key_lists file t i ≡ true
unfolding key_lists is_joined
reads_lists file t i is = rw is

module _ (manner : Manner) (file : List ℕ) (t : Table) (i : ℕ) {key : List ℕ} (is : key_of file t t.count i ≡ Joined.joined key) where
  pub reads_finds : index_of manner file t key ≡ Some i → key_finds manner file t i ≡ true
  unfolding key_finds sought_at
  reads_finds e = rw is (at_is i e)

-- rules 3 and 4: the kind and the value pointer
inside_true : (p : Result (Unit {0}) Refusal) → is_inside p ≡ true → p ≡ Ok tt
unfolding is_inside
inside_true (Ok _) e = refl
inside_true (Err why) e = cc

table-true : (o : Result Table Refusal) → is_table o ≡ true → (t : Table) × (o ≡ Ok t)
unfolding is_table
table-true (Ok t) e = (t, refl)
table-true (Err why) e = let z : ◌≡◌ {A = ℕ} 0 1 = cc in absurd (omega arith)

module _ (file : List ℕ) (item : Item) where
  pub value_good : value_opens file item ≡ true → ValueGood file item
  unfolding value_opens list_opens
  value_good = pick_with (λ b. b ≡ true → ValueGood file item) _ _ _
      (λ v opens. ValueGood.value (eqb-true _ _ v) (inside_true _ opens))
      (λ _. pick_with (λ b. b ≡ true → ValueGood file item) _ _ _
      (λ h opens. let found = table-true _ opens in ValueGood.table (eqb-true _ _ h) found.1)
      (λ _. pick_with (λ b. b ≡ true → ValueGood file item) _ _ _
      (λ l opens. let parts = both (is_inside (open_pointer (length file) item.from item.to 4)) (eqb ((item.to - item.from) % 4) 0) opens in ValueGood.list (eqb-true _ _ l) (inside_true _ parts.0) (eqb-true _ _ parts.1))
      (λ _ opens. let z : ◌≡◌ {A = ℕ} 0 1 = cc in absurd (omega arith))))

  pub good_kind : ValueGood file item → kind_known item.kind ≡ true
  good_kind (ValueGood.value is e) = rw is
  good_kind (ValueGood.table is e) = rw is
  good_kind (ValueGood.list is e whole) = rw is

  pub good_value : ValueGood file item → value_opens file item ≡ true
  unfolding value_opens list_opens is_inside is_table pick
  good_value (ValueGood.value is e) = rw (is, e)
  good_value (ValueGood.table is e) = rw (is, e)
  good_value (ValueGood.list is e whole) = rw (is, e, eq-eqb _ _ whole)

-- rule 5: the children of a container
pub child_good_lem : (file : List ℕ) (t : Table) (i from k : ℕ) → child_good file t i from k ≡ true
    → (child_at file from k < t.count) × ((item_at file t (child_at file from k)).parent ≡ i) × (among file from k (child_at file from k) ≡ false)
unfolding child_good
child_good_lem file t i from k e =
    let parts = three (ltb (child_at file from k) t.count) (eqb (item_at file t (child_at file from k)).parent i) (not (among file from k (child_at file from k))) e in
    (ltb-true _ _ parts.0, eqb-true _ _ parts.1, not-true _ parts.2)

pub good_child : (file : List ℕ) (t : Table) (i from k : ℕ) → child_at file from k < t.count → (item_at file t (child_at file from k)).parent ≡ i
    → among file from k (child_at file from k) ≡ false → child_good file t i from k ≡ true
unfolding child_good
good_child file t i from k below names new = rw (lt-ltb _ _ below, eq-eqb _ _ names, new)

-- an index is among exactly when it stands at a position
pub among_at : (file : List ℕ) (from n index : ℕ) → among file from n index ≡ true → (k : ℕ) × (k < n) × (child_at file from k ≡ index)
unfolding among
among_at file from n index e =
    let found = some_below_lem (λ k. eqb (child_at file from k) index) n e in
    (found.0, found.1, eqb-true _ _ found.2)

pub at_among : (file : List ℕ) (from n index k : ℕ) → k < n → child_at file from k ≡ index → among file from n index ≡ true
unfolding among
at_among file from n index k h e = below_some (λ k. eqb (child_at file from k) index) n k h (eq-eqb _ _ e)

pub children_of_lem : (file : List ℕ) (t : Table) (i : ℕ) (item : Item) → item.kind ≡ 76 → children_good file t i item ≡ true
    → (k : ℕ) → k < child_count item → child_good file t i item.from k ≡ true
unfolding children_good pick
children_of_lem file t i item is e =
    let all : all_below (child_good file t i item.from) (child_count item) ≡ true = rw (eq-eqb _ _ is) at e in
    all_below_lem (child_good file t i item.from) (child_count item) all

-- two positions of one child are the same, since neither comes before the other
pub not-before : (file : List ℕ) (t : Table) (i from k l : ℕ) → child_good file t i from l ≡ true → child_at file from k ≡ child_at file from l → k < l → ⊥
not-before file t i from k l good same less =
    let yes-listed : among file from l (child_at file from l) ≡ true = at_among file from l (child_at file from l) k less same in
    let not_listed : among file from l (child_at file from l) ≡ false = (child_good_lem file t i from l good).2 in
    let z : ◌≡◌ {A = ℕ} 0 1 = cc in
    omega arith

pub same_place : (k l : ℕ) → (k < l → ⊥) → (l < k → ⊥) → k ≡ l
same_place k l a b = by_case (ltb k l) refl (ltb l k) refl
  where
    by_case : (p : Bool) → ltb k l ≡ p → (q : Bool) → ltb l k ≡ q → k ≡ l
    by_case true e q f = absurd (a (ltb-true k l e))
    by_case false e true f = absurd (b (ltb-true l k f))
    by_case false e false f = omega (arith, ltb-false k l e, ltb-false l k f)

-- rule 6: the parent
pub up_true : (file : List ℕ) (j : ℕ) (item : Item) → lists_it file j item ≡ true → (item.kind ≡ 76) × (among file item.from (child_count item) j ≡ true)
unfolding lists_it
up_true file j item e =
    let parts = three (eqb item.kind 76) (value_opens file item) (among file item.from (child_count item) j) e in
    (eqb-true _ _ parts.0, parts.2)

-- a root, or an item whose parent is a container
abbrev pub RootOrContained : List ℕ → Table → ℕ → Type 0
RootOrContained file t parent = (parent ≡ 4294967295) ⊎ ((parent < t.count) × ((item_at file t parent).kind ≡ 76))

module _ (file : List ℕ) (t : Table) (j : ℕ) where
  pub parent_is : (parent : ℕ) → parent_keeps file t j (parent_of t.count parent) ≡ true → RootOrContained file t parent
  unfolding parent_of parent_keeps
  parent_is parent =
      let P : Result (Option ℕ) Refusal → Type 0 = λ s. parent_keeps file t j s ≡ true → RootOrContained file t parent in
      pick_with P _ _ _ (λ root e. inl (eqb-true _ _ root))
      (λ _. pick_with P _ _ _ (λ below e. inr (ltb-true _ _ below, (up_true file j (item_at file t parent) e).0))
      (λ _ e. let z : ◌≡◌ {A = ℕ} 0 1 = cc in absurd (omega arith)))

  -- a parent below the count, which is small, is not the parent word of a root
  pub parent_up : (parent : ℕ) → parent < t.count → t.count ≤ 16777216 → parent_of t.count parent ≡ Ok (Some parent)
  unfolding parent_of pick
  parent_up parent below few =
      let no-root : parent ≡ 4294967295 → ⊥ = λ e. omega arith in
      rw (ne_eqb _ _ no-root, lt-ltb _ _ below)

pub few_items : {file : List ℕ} {t : Table} → InFile file t → t.count ≤ 16777216
few_items f = omega (arith, f.items, f.short)
