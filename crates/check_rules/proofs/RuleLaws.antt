-- The tests of the rules, from what the calls answer.
use Rattle.std.specs.Prelude.{Result, Ok, Err, Option, Some, None}
use Rattle.std.specs.Result.{is_ok}
use Prim.Native.Nat.{ℕ, zero, suc, ◌+◌, ◌*◌, ◌≤◌, ◌<◌, ◌-◌}
use mathlib.Core.Path.{◌≡◌, refl, sym, ap, ◌∙◌}
use mathlib.Core.List.{List}
use mathlib.Core.Bool.{Bool, true, false, ◌||◌}
use native.Mathlib.Numerals.{add-one}
use Rattle.std.specs.List.{list_any, range_with_len}
use Rattle.std.proofs.Math.Bool.{or-false, or_assoc}
use native.Mathlib.Omega.{arith}
use native.Mathlib.Nat.{sub-zero}
use lib.ListN.{length}
use lib.Dec.{eqb}
use borrow.Author.Tests.{eq-eqb, ne_eqb}
use Rattle.words.specs.Choice.{pick}
use Rattle.words.specs.Below.{all_below, some_below}
use Rattle.words.proofs.ChoiceLaws.{both}
use Rattle.layout.specs.declared.refusal.Refusal.{Refusal}
use Rattle.layout.specs.declared.table.Table.{Table}
use Rattle.layout.specs.declared.item.Item.{Item}
use Rattle.layout.specs.Kind.{kind_known}
use Rattle.layout.specs.Pointer.{open_pointer}
use Rattle.layout.specs.Item.{item_at}
use Rattle.layout.proofs.OpenLaws.{pointer_inside}
use Rattle.read_chain.specs.Chain.{Joined, key_of}
use Rattle.read_find.specs.Find.{Manner, find_item}
use Rattle.read_listing.specs.Listing.{measure}
use Rattle.check_rules.specs.declared.checked.Checked.{Checked}
use Rattle.check_hash.specs.Key.{bytes_of, joined_key}
use Rattle.check_rules.specs.Survey.{key_rule}
use Rattle.read_listing.specs.Children.{child_at, child_count}
use Rattle.check_rules.specs.Rules.{is_joined, is_at, key_lists, key_finds, is_inside, is_table, list_opens, value_opens, among, child_good, children_good, lists_it, parent_good, broken_rule, first_broken, unlisted, explained, check_in}
use Rattle.check_rules.proofs.KeyText.{sought_joined}

-- ---- rules 1 and 2, with the item's joined key at hand

joined_there : (rule : ℕ → ℕ) (j : Joined) {hash size : ℕ} → joined_key rule j ≡ Some (record { hash = hash; size = size }) → is_joined j ≡ true
unfolding joined_key is_joined
joined_there rule (Joined.joined k) e = refl
joined_there rule (Joined.broken why) e = cc

broken-joined : (rule : ℕ → ℕ) (j : Joined) → joined_key rule j ≡ None → is_joined j ≡ false
unfolding joined_key is_joined
broken-joined rule (Joined.joined k) e = cc
broken-joined rule (Joined.broken why) e = refl

not_at : (index : ℕ) (f : Option ℕ) → (f ≡ Some index → ⊥) → is_at index f ≡ false
unfolding is_at
not_at index None n = refl
not_at index (Some found) n = ne_eqb found index (λ e. n (ap Some e))

module _ (manner : Manner) (file : List ℕ) (t : Table) (index : ℕ) where
  pub key_broken : joined_key manner.byte (key_of file t t.count index) ≡ None → 1 ≡ key_rule manner file t index
  unfolding key_rule key_lists pick
  key_broken e = rw (broken-joined manner.byte _ e)

  module _ {hash size : ℕ} (own : joined_key manner.byte (key_of file t t.count index) ≡ Some (record { hash = hash; size = size }))
      {f : Option ℕ} (found : find_item manner file t (bytes_of (key_of file t t.count index)) ≡ f) where
    finds : is_at index f ≡ key_finds manner file t index
    unfolding key_finds
    finds = ap (is_at index) (sym found ∙ sym (sought_joined manner file t t.count index (joined_there manner.byte _ own)))

    key_sought : pick (is_at index f) 0 2 ≡ key_rule manner file t index
    unfolding key_rule key_lists pick
    key_sought = rw (joined_there manner.byte _ own, finds)

  module _ {hash size : ℕ} (own : joined_key manner.byte (key_of file t t.count index) ≡ Some (record { hash = hash; size = size })) where
    pub key_here : find_item manner file t (bytes_of (key_of file t t.count index)) ≡ Some index → 0 ≡ key_rule manner file t index
    unfolding is_at pick
    key_here e = sym (rw (eq-eqb index index refl)) ∙ key_sought own e

    pub key_elsewhere : (find_item manner file t (bytes_of (key_of file t t.count index)) ≡ Some index → ⊥) → 2 ≡ key_rule manner file t index
    unfolding pick
    key_elsewhere other = sym (rw (not_at index _ other)) ∙ key_sought own refl

-- ---- rule 4 of a container: its list lies in the file

-- that a pointer, or a table, opens, as the code asks
pub inside_ok : (p : Result (Unit {0}) Refusal) → is_ok p ≡ is_inside p
unfolding is_inside
inside_ok (Ok _) = refl
inside_ok (Err why) = refl

pub table_ok : (p : Result Table Refusal) → is_ok p ≡ is_table p
unfolding is_table
table_ok (Ok t) = refl
table_ok (Err why) = refl

refused_no : (why : Refusal) → is_inside (Err why) ≡ true → ◌≡◌ {A = ℕ} 0 1
unfolding is_inside
refused_no why e = cc

inside_fits : (size from to alignment : ℕ) → is_inside (open_pointer size from to alignment) ≡ true → (from ≤ to) × (to ≤ size)
inside_fits size from to alignment e = by_case (open_pointer size from to alignment) refl e
  where
    by_case : (p : Result (Unit {0}) Refusal) → open_pointer size from to alignment ≡ p → is_inside p ≡ true → (from ≤ to) × (to ≤ size)
    by_case (Ok _) is f = pointer_inside size from to alignment is
    by_case (Err why) is f = let z : ◌≡◌ {A = ℕ} 0 1 = refused_no why f in absurd (omega arith)

module _ (file : List ℕ) (item : Item) where
  opens_list : item.kind ≡ 76 → value_opens file item ≡ list_opens file item
  unfolding value_opens pick
  opens_list is =
      let other : item.kind ≡ 118 → ⊥ = λ e. omega arith in
      let neither : item.kind ≡ 72 → ⊥ = λ e. omega arith in
      rw (ne_eqb _ _ other, ne_eqb _ _ neither, eq-eqb _ _ is)

  pub list_room : item.kind ≡ 76 → value_opens file item ≡ true → (item.from ≤ item.to) × (item.from + 4 * child_count item ≤ length file)
  unfolding list_opens child_count
  list_room is opens =
      let inside = inside_fits (length file) item.from item.to 4 (both _ _ (sym (opens_list is) ∙ opens)).0 in
      (inside.0, omega arith)

-- ---- the first rule that is broken, rule by rule

module _ (manner : Manner) (file : List ℕ) (t : Table) (index : ℕ) where
  key_other : (key_rule manner file t index ≡ 0 → ⊥) → key_rule manner file t index ≡ broken_rule manner file t index
  unfolding key_rule broken_rule pick
  key_other = by_tests (key_lists file t index) (key_finds manner file t index) _
    where
      by_tests : (one two : Bool) (rest : ℕ) → (◌≡◌ {A = ℕ} (pick one (pick two 0 2) 1) 0 → ⊥) → ◌≡◌ {A = ℕ} (pick one (pick two 0 2) 1) (pick one (pick two rest 2) 1)
      by_tests true true rest n = absurd (n refl)
      by_tests true false rest n = refl
      by_tests false two rest n = refl

  key_keeps : key_rule manner file t index ≡ 0 → (key_lists file t index ≡ true) × (key_finds manner file t index ≡ true)
  unfolding key_rule pick
  key_keeps = by_tests (key_lists file t index) (key_finds manner file t index)
    where
      by_tests : (one two : Bool) → ◌≡◌ {A = ℕ} (pick one (pick two 0 2) 1) 0 → (one ≡ true) × (two ≡ true)
      by_tests true true e = (refl, refl)
      by_tests true false e = absurd (omega arith)
      by_tests false two e = absurd (omega arith)

  module _ {key : ℕ} (said : key ≡ key_rule manner file t index) where
    pub breaks_key : (key ≡ 0 → ⊥) → key ≡ broken_rule manner file t index
    breaks_key n = said ∙ key_other (λ e. n (said ∙ e))

    module _ (none : key ≡ 0) {item : Item} (is : item ≡ item_at file t index) where
      keyed : (key_lists file t index ≡ true) × (key_finds manner file t index ≡ true)
      keyed = key_keeps (sym said ∙ none)

      pub breaks_3 : kind_known item.kind ≡ false → 3 ≡ broken_rule manner file t index
      unfolding broken_rule pick
      breaks_3 e = rw (keyed.0, keyed.1, ← is, e)

      module _ (three : kind_known item.kind ≡ true) where
        pub breaks_4 : value_opens file item ≡ false → 4 ≡ broken_rule manner file t index
        unfolding broken_rule pick
        breaks_4 e = rw (keyed.0, keyed.1, ← is, three, e)

        module _ (four : value_opens file item ≡ true) where
          pub breaks_5 : children_good file t index item ≡ false → 5 ≡ broken_rule manner file t index
          unfolding broken_rule pick
          breaks_5 e = rw (keyed.0, keyed.1, ← is, three, four, e)

          module _ (five : children_good file t index item ≡ true) where
            pub breaks_6 : parent_good file t index item ≡ false → 6 ≡ broken_rule manner file t index
            unfolding broken_rule pick
            breaks_6 e = rw (keyed.0, keyed.1, ← is, three, four, five, e)

            pub breaks_none : parent_good file t index item ≡ true → 0 ≡ broken_rule manner file t index
            unfolding broken_rule pick
            breaks_none e = rw (keyed.0, keyed.1, ← is, three, four, five, e)

-- ---- the search for the first item that breaks a rule

module _ (broken : ℕ → ℕ) where
  broken_turn : (count at : ℕ) → at < count
      → first_broken broken (count - at) at ≡ pick (eqb (broken at) 0) (first_broken broken (count - (at + 1)) (at + 1)) (Checked.Broken (broken at) at)
  unfolding first_broken
  broken_turn count at h =
      let e : count - at ≡ suc (count - (at + 1)) = omega arith in
      rw e

  pub broken_here : (count at : ℕ) {n : ℕ} → at < count → n ≡ broken at → (n ≡ 0 → ⊥) → Checked.Broken n at ≡ first_broken broken (count - at) at
  unfolding pick
  broken_here count at h is some = sym (broken_turn count at h ∙ rw (← is, ne_eqb _ _ some))

  pub broken_later : (count at : ℕ) {n : ℕ} → at < count → n ≡ broken at → n ≡ 0 → first_broken broken (count - (at + 1)) (at + 1) ≡ first_broken broken (count - at) at
  unfolding pick
  broken_later count at h is none = sym (broken_turn count at h ∙ rw (← is, eq-eqb _ _ none))

  pub broken_over : (count at : ℕ) → count ≤ at → first_broken broken (count - at) at ≡ Checked.Sound
  unfolding first_broken
  broken_over count at h =
      let e : count - at ≡ 0 = omega arith in
      rw e

pub broken-start : (manner : Manner) (file : List ℕ) (t : Table) → explained file t (first_broken (broken_rule manner file t) (t.count - 0) 0) ≡ check_in manner file t
unfolding check_in
broken-start manner file t = ap (λ (n : ℕ). explained file t (first_broken (broken_rule manner file t) n 0)) (sub-zero t.count)

-- a broken rule that is not the first, and the first, by what the key measures
module _ (file : List ℕ) (t : Table) (item : ℕ) where
  pub explained_other : (n : ℕ) → (n ≡ 1 → ⊥) → Checked.Broken n item ≡ explained file t (Checked.Broken n item)
  unfolding explained pick
  explained_other n h = rw (ne_eqb n 1 h)

  unlisted_by : (j : Joined) {why : Refusal} → measure j ≡ Err why → Checked.Unlisted why item ≡ unlisted j item
  unfolding measure unlisted
  unlisted_by (Joined.joined k) e = let z : ◌≡◌ {A = ℕ} 0 1 = cc in absurd (omega arith)
  unlisted_by (Joined.broken w) e = cc

  listed_by : (j : Joined) {size : ℕ} → measure j ≡ Ok size → Checked.Broken 1 item ≡ unlisted j item
  unfolding measure unlisted
  listed_by (Joined.joined k) e = refl
  listed_by (Joined.broken w) e = let z : ◌≡◌ {A = ℕ} 0 1 = cc in absurd (omega arith)

  module _ (n : ℕ) (one : n ≡ 1) where
    pub explained-refused : {why : Refusal} → measure (key_of file t t.count item) ≡ Err why → Checked.Unlisted why item ≡ explained file t (Checked.Broken n item)
    unfolding explained pick
    explained-refused e = rw (eq-eqb n 1 one) (unlisted_by (key_of file t t.count item) e)

    pub explained_sized : {size : ℕ} → measure (key_of file t t.count item) ≡ Ok size → Checked.Broken 1 item ≡ explained file t (Checked.Broken n item)
    unfolding explained pick
    explained_sized e = rw (eq-eqb n 1 one) (listed_by (key_of file t t.count item) e)

-- ---- whether a container lists an index

-- a test of some number from a on, and of those below a, is one of those below the end
any_on : (test : ℕ → Bool) (a n : ℕ) → (some_below test a || list_any test (range_with_len a n)) ≡ some_below test (a + n)
unfolding some_below
any_on test a zero = let same : a ≡ a + 0 = omega arith in or-false (some_below test a) ∙ ap (some_below test) same
any_on test a (suc n) =
    let rest = list_any test (range_with_len (a + 1) n) in
    let next : some_below test (a + 1) ≡ (some_below test a || test a) = ap (some_below test) (add-one a) in
    let at : a + suc n ≡ a + 1 + n = omega arith in
    rw at (sym (or_assoc (some_below test a) (test a) rest) ∙ ap (λ (b : Bool). b || rest) (sym next) ∙ any_on test (a + 1) n)

pub any_child : (file : List ℕ) (from n index : ℕ) {r : Bool} → r ≡ list_any (λ k. eqb (child_at file from k) index) (range_with_len 0 n) → r ≡ among file from n index
unfolding among some_below
any_child file from n index e = let all : 0 + n ≡ n = omega arith in e ∙ any_on (λ k. eqb (child_at file from k) index) 0 n ∙ ap (some_below (λ k. eqb (child_at file from k) index)) all

-- ---- a parent that lists an index, or does not; rule 5 of a container and of another item

module _ (file : List ℕ) (index : ℕ) (item : Item) where
  pub lists_other : (item.kind ≡ 76 → ⊥) → false ≡ lists_it file index item
  unfolding lists_it
  lists_other n = rw (ne_eqb _ _ n)

  pub lists_shut : item.kind ≡ 76 → value_opens file item ≡ false → false ≡ lists_it file index item
  unfolding lists_it
  lists_shut is shut = rw (eq-eqb _ _ is, shut)

  pub lists_open : item.kind ≡ 76 → value_opens file item ≡ true → {from n : ℕ} → from ≡ item.from → n ≡ child_count item → among file from n index ≡ lists_it file index item
  unfolding lists_it
  lists_open is opens start same = rw (eq-eqb _ _ is, opens, start, same)

module _ (file : List ℕ) (t : Table) (index : ℕ) (item : Item) where
  pub children_other : (item.kind ≡ 76 → ⊥) → true ≡ children_good file t index item
  unfolding children_good pick
  children_other n = rw (ne_eqb _ _ n)

  pub children_all : item.kind ≡ 76 → {from n : ℕ} → from ≡ item.from → n ≡ child_count item → {told : Bool} → told ≡ all_below (child_good file t index from) n
      → told ≡ children_good file t index item
  unfolding children_good pick
  children_all is start same e = e ∙ rw (eq-eqb _ _ is, start, same)
