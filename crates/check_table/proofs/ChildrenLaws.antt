-- What listing the children of a container answers in a sound table, position by position; and in any table what the greatest position tells.
use Rattle.read_listing.specs.declared.children.Child.{Child}
use Rattle.std.specs.Prelude.{Result, Ok, Err, Option, Some, None}
use Prim.Native.Nat.{ℕ, ◌-◌, ◌/◌, ◌%◌, ◌^◌, ◌≤◌, ◌<◌}
use mathlib.Core.Path.{◌≡◌, refl, sym, ap, subst, ◌∙◌}
use mathlib.Core.List.{List}
use mathlib.Core.Bool.{Bool, true, false}
use native.Mathlib.Omega.{arith}
use lib.ListN.{length}
use lib.Dec.{ltb}
use borrow.Author.Tests.{ltb-true, ltb-false, le-ltb}
use Rattle.words.specs.Choice.{pick}
use Rattle.words.proofs.ChoiceLaws.{pick_with}
use Rattle.text.specs.Utf8.{is_utf8}
use Rattle.layout.specs.declared.refusal.Refusal.{Refusal}
use Rattle.layout.specs.declared.refusal.Refusal.TheVariants.{PastTheLast}
use Rattle.layout.specs.declared.table.Table.{Table}
use Rattle.layout.specs.declared.item.Item.{Item}
use Rattle.layout.specs.Refusal.{number}
use Rattle.layout.specs.Pointer.{open_pointer}
use Rattle.layout.specs.Table.{open_table}
use Rattle.layout.specs.Item.{item_at}
use Rattle.layout.specs.Answer.{pointed_number}
use Rattle.layout.proofs.OpenLaws.{opened_in_file}
use Rattle.layout.proofs.AnswerLaws.{pointed_below, opened_low}
use Rattle.read_chain.specs.Chain.{fragment_of, climb_from, Joined, key_of}
use Rattle.read_find.specs.Find.{Manner, find_item}
use Rattle.read.specs.Lookup.{at_found, lookup_in}
use Rattle.read_listing.specs.Children.{child_at, child_count, whole_words, open_list, child_from, child_of_sought, child_in_opened, next_child}
use Rattle.read_chain.proofs.ChainLaws.{key_turn, climb_or, Climbs}
use Rattle.read_listing.proofs.ChildLaws.{list_inside}
use Rattle.read_listing.proofs.Plain.{found_names}
use Rattle.read_listing.proofs.AnswerLaws.{children_past, children_0}
use Rattle.check_rules.specs.Rules.{index_of}
use Rattle.check_table.specs.Sound.{ValueGood}
use Rattle.check_table.specs.Children.{Container, Answers, ChildrenAnswer, ChildrenFound, ChildrenAll, Probe}
use Rattle.check_table.proofs.RuleWords.{good_kind}
use Rattle.check_table.proofs.Children.{not-refused, child_found}

-- ---- a sound table

-- an item whose key reads: its fragment lies in the file and is UTF-8
key_climbs : (file : List ℕ) (t : Table) (j : ℕ) {k : List ℕ} → j < t.count → key_of file t t.count j ≡ Joined.joined k
    → Climbs file t.count (item_at file t j) (climb_from file t.count (item_at file t j))
key_climbs file t j below e = climb_or file t.count (item_at file t j) (not-refused _ _ _ (sym (key_turn file t t.count j (item_at file t j) _ (omega arith) refl refl) ∙ e))

-- what a key looks up, it is UTF-8 and finds
index_finds : (manner : Manner) (file : List ℕ) (t : Table) (key : List ℕ) {i : ℕ} → index_of manner file t key ≡ Some i → (is_utf8 key ≡ true) × (find_item manner file t key ≡ Some i)
unfolding index_of
index_finds manner file t key {i} =
    let P : Option ℕ → Type 0 = λ f. f ≡ Some i → (is_utf8 key ≡ true) × (find_item manner file t key ≡ Some i) in
    pick_with P _ _ _ (λ text e. (text, e)) (λ _ e. let z : ◌≡◌ {A = ℕ} 0 1 = cc in absurd (omega arith))

-- the value pointer of a container that is good
list_good : (file : List ℕ) (item : Item) → item.kind ≡ 76 → ValueGood file item → (open_pointer (length file) item.from item.to 4 ≡ Ok tt) × ((item.to - item.from) % 4 ≡ 0)
list_good file item is (ValueGood.value other opens) = absurd (omega arith)
list_good file item is (ValueGood.table other opens) = absurd (omega arith)
list_good file item is (ValueGood.list kind inside whole) = (inside, whole)

same_child : {x y : Child} → ◌≡◌ {A = Result Child Refusal} (Ok x) (Ok y) → x ≡ y
same_child e = cc

index_of_child : {x y : Child} → ◌≡◌ {A = Result Child Refusal} (Ok x) (Ok y) → x.index ≡ y.index
index_of_child e = ap (λ (c : Child). c.index) (same_child e)

module _ (manner : Manner) (file : List ℕ) (start end : ℕ) (key : List ℕ) (t : Table) (i : ℕ) (c : Container manner file start end key t i) where
  finds : (is_utf8 key ≡ true) × (find_item manner file t key ≡ Some i)
  finds = index_finds manner file t key c.finds

  named : (i < t.count) × (key_of file t t.count i ≡ Joined.joined key)
  named = let says = found_names manner file t key i finds.1 in (says.0, says.2)

  list : (open_pointer (length file) (item_at file t i).from (item_at file t i).to 4 ≡ Ok tt) × (((item_at file t i).to - (item_at file t i).from) % 4 ≡ 0)
  list = list_good file (item_at file t i) c.holds (c.sound.values i named.0)

  past : (k : ℕ) → child_count (item_at file t i) ≤ k → next_child manner file start end key k ≡ Err PastTheLast
  past k = children_past manner file start end key k c.opens finds.0 finds.1 c.holds list.0 list.1

  child : (k : ℕ) → k < child_count (item_at file t i) → (child_at file (item_at file t i).from k < t.count) × ((item_at file t (child_at file (item_at file t i).from k)).parent ≡ i)
  child k listed = (c.sound.lists i _ named.0 c.holds).0 (k, listed, refl)

  listed_answers : (k : ℕ) → k < child_count (item_at file t i) → Answers manner file start end key t k (child_at file (item_at file t i).from k)
  listed_answers k listed =
      let j = child_at file (item_at file t i).from k in
      let below = (child k listed).0 in
      let climbs = key_climbs file t j below (c.sound.keys j below).1 in
      children_0 manner file start end key k c.opens finds.0 finds.1 c.holds list.0 list.1 listed j refl below
      (good_kind file (item_at file t j) (c.sound.values j below)) climbs.inside climbs.text

  -- what a position answers stands there in the list
  answered : (k j : ℕ) → Answers manner file start end key t k j → (k < child_count (item_at file t i)) × (child_at file (item_at file t i).from k ≡ j)
  answered k j says = by_case (ltb k (child_count (item_at file t i))) refl
    where
      by_case : (b : Bool) → ltb k (child_count (item_at file t i)) ≡ b → (k < child_count (item_at file t i)) × (child_at file (item_at file t i).from k ≡ j)
      by_case true e = let listed = ltb-true _ _ e in (listed, index_of_child (sym (listed_answers k listed) ∙ says))
      by_case false e = let none = sym (past k (ltb-false _ _ e)) ∙ says in let z : ◌≡◌ {A = ℕ} 0 1 = cc in absurd (omega arith)

pub children_answer : ChildrenAnswer
children_answer manner file start end key t i c k = (listed_answers manner file start end key t i c k, past manner file start end key t i c k)

pub children_found : ChildrenFound
unfolding fragment_of
children_found manner file start end key t i c k j says =
    let (listed, is) = answered manner file start end key t i c k j says in
    let child = (c.sound.lists i j (named manner file start end key t i c).0 c.holds).0 (k, listed, is) in
    child_found file t (opened_in_file file start end c.opens) i j (named manner file start end key t i c).0 child.0 child.1 manner c.sound key (named manner file start end key t i c).1

pub children_all : ChildrenAll
children_all manner file start end key t i c j below names =
    let here = (named manner file start end key t i c).0 in
    let (k, listed, is) = (c.sound.lists i j here c.holds).1 (below, names) in (
      k,
      subst (Answers manner file start end key t k) is (listed_answers manner file start end key t i c k listed),
      λ l says. let (low, same) = answered manner file start end key t i c l j says in c.sound.once i l k here c.holds low listed (same ∙ sym is),
    )

-- ---- any table: at the greatest position, 15 comes of a container that is good, and of nothing else

refused_same : {v w : Refusal} → ◌≡◌ {A = Result Child Refusal} (Err v) (Err w) → v ≡ w
refused_same e = cc

not_15 : {A : Type 0} {why : Refusal} → number why < 15 → why ≡ PastTheLast → A
not_15 low is = let z = subst (λ (w : Refusal). number w < 15) is low in absurd (omega arith)

list_low : (file : List ℕ) (item : Item) → pointed_number (open_list file item) < 15
unfolding open_list whole_words pointed_number
list_low file item = pick_with P _ _ _ (λ _. by_pointer (open_pointer (length file) item.from item.to 4) (pointed_below (length file) item.from item.to 4)) (λ _. omega arith)
  where
    P : Result (Unit {0}) Refusal → Type 0
    P p = pointed_number p < 15

    by_pointer : (p : Result (Unit {0}) Refusal) → pointed_number p < 4 → pointed_number (whole_words p item) < 15
    by_pointer (Ok _) low = pick_with P _ _ _ (λ _. omega arith) (λ _. omega arith)
    by_pointer (Err why) low = omega arith

unfoldable SoughtLow : Result Item Refusal → Type 0
SoughtLow (Ok item) = Unit
SoughtLow (Err why) = number why < 15

lookup_low : (manner : Manner) (file key : List ℕ) (t : Table) → SoughtLow (lookup_in manner file key t)
unfolding lookup_in at_found SoughtLow
lookup_low manner file key t = pick_with SoughtLow _ _ _ (λ _. by_found (find_item manner file t key)) (λ _. omega arith)
  where
    by_found : (f : Option ℕ) → SoughtLow (at_found file t f)
    by_found (Some i) = tt
    by_found None = omega arith

module _ (manner : Manner) (file : List ℕ) (start end : ℕ) (key : List ℕ) (at : ℕ) where
  abbrev Good : Type 0
  Good = (t : Table) × (item : Item) × (open_table file start end ≡ Ok t) × (lookup_in manner file key t ≡ Ok item) × (open_list file item ≡ Ok tt)

  by_list : (t : Table) (item : Item) → open_table file start end ≡ Ok t → lookup_in manner file key t ≡ Ok item
      → (p : Result (Unit {0}) Refusal) → open_list file item ≡ p → child_from p file t item at ≡ Err PastTheLast → Good
  unfolding child_from pointed_number
  by_list t item opens looked (Ok _) is e = (t, item, opens, looked, is)
  by_list t item opens looked (Err why) is e = not_15 (subst (λ (p : Result (Unit {0}) Refusal). pointed_number p < 15) is (list_low file item)) (refused_same e)

  by_item : (t : Table) → open_table file start end ≡ Ok t → (s : Result Item Refusal) → lookup_in manner file key t ≡ s → child_of_sought s file t at ≡ Err PastTheLast → Good
  unfolding child_of_sought SoughtLow
  by_item t opens (Ok item) is e = by_list t item opens is (open_list file item) refl e
  by_item t opens (Err why) is e = not_15 (subst SoughtLow is (lookup_low manner file key t)) (refused_same e)

  by_table : (o : Result Table Refusal) → open_table file start end ≡ o → child_in_opened manner file key at o ≡ Err PastTheLast → Good
  unfolding child_in_opened
  by_table (Ok t) is e = by_item t is (lookup_in manner file key t) refl e
  by_table (Err why) is e = let low = opened_low file start end is in not_15 (omega arith) (refused_same e)

  good_past : length file ≤ at → Good → next_child manner file start end key at ≡ Err PastTheLast
  unfolding next_child child_in_opened child_of_sought child_from child_count pick
  good_past far (t, item, opens, looked, inside) =
      let fits = list_inside file item inside in
      let few : (item.to - item.from) / 4 ≤ at = omega arith in
      rw (opens, looked, inside, le-ltb _ _ few)

pub probe : Probe
unfolding next_child
probe manner file start end key = (
  by_table manner file start end key (2 ^ 64 - 1) (open_table file start end) refl,
  λ good. let inside = opened_in_file file start end good.2 in good_past manner file start end key (2 ^ 64 - 1) (omega arith) good,
)
