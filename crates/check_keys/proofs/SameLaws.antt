-- Comparing an item's key with a front: one item, and the loop over its chain.
use Rattle.std.specs.Prelude.{Result, Ok, Err, Option, Some, None}
use Prim.Native.Nat.{ℕ, suc, ◌+◌, ◌-◌, ◌≤◌, ◌<◌}
use mathlib.Core.Path.{◌≡◌, refl, sym, ap, ◌∙◌, subst}
use mathlib.Core.List.{List}
use mathlib.Core.Bool.{Bool, false}
use native.Mathlib.Omega.{arith}
use lib.ListN.{length, take, drop}
use lib.Seq.{take_all}
use lib.Dec.{eqb}
use Rattle.words.specs.Choice.{pick}
use Rattle.words.proofs.ChoiceLaws.{pick_true, pick-false}
use Rattle.key_order.specs.Compare.{ends_at}
use Rattle.layout.specs.declared.refusal.Refusal.{Refusal}
use Rattle.layout.specs.declared.table.Table.{Table}
use Rattle.layout.specs.declared.item.Item.{Item}
use Rattle.layout.specs.Item.{item_at}
use Rattle.read_chain.specs.Chain.{Joined, append, join_step, key_of, climb_from, fragment_of, names}
use Rattle.read_listing.proofs.AnswerLaws.{key_2}
use Rattle.read_chain.proofs.ChainLaws.{StepFits, climb_fits, fragment_taken}
use Rattle.read_chain.proofs.MatchLaws.{names-tail}
use Rattle.read_listing.proofs.WriteLaws.{above, joined_above}
use Rattle.check_keys.specs.declared.search.Compared.{Compared}
use Rattle.check_keys.specs.declared.front.Front.{Front}
use Rattle.check_hash.specs.Key.{bytes_of, Keyed}
use Rattle.check_keys.specs.Front.{front_at, front_bytes, FrontFits, BackPassed, ItemCompared}
use Rattle.check_hash.proofs.KeyLaws.{sized_bytes}
use Rattle.check_keys.proofs.PartLaws.{empty_length}
use Rattle.check_keys.proofs.FrontLaws.{fitting_start, front_long}

-- ---- one item, whose fragment's offset is at hand

module _ (file : List ℕ) (t : Table) (at : ℕ) {item : Item} (is : item ≡ item_at file t at) where
  pub same_refused : (p : Front) {why : Refusal} → climb_from file t.count item ≡ Err why → ItemCompared file t at p (Compared.Ended false)
  unfolding ItemCompared key_of join_step names
  same_refused p e steps = rw (← is, e)

  pub same_outside : (p : Front) {start size : ℕ} → start ≡ item.key → size ≡ item.size → length file < start + size → ItemCompared file t at p (Compared.Ended false)
  unfolding ItemCompared names
  same_outside p from long past steps =
      let outside : length file < (item_at file t at).key + (item_at file t at).size = omega (arith, from ∙ ap (λ (i : Item). i.key) is, long ∙ ap (λ (i : Item). i.size) is) in
      rw (key_2 file t steps at outside)

  key_above : {s : Result (Option ℕ) Refusal} → climb_from file t.count item ≡ s → (steps : ℕ)
      → key_of file t (suc steps) at ≡ append (above s (λ q. key_of file t steps q)) (fragment_of file item)
  unfolding key_of
  key_above e steps = rw (← is, e) (joined_above _ _ _)

  module _ {p : Front} (fitting : FrontFits file t p) {start size : ℕ} (from : start ≡ item.key) (long : size ≡ item.size) where
    names_above : {s : Result (Option ℕ) Refusal} → climb_from file t.count item ≡ s → (steps : ℕ) → names (key_of file t (suc steps) at) (front_bytes file t p)
        ≡ pick (ends_at (front_bytes file t p) p.size (take (start + size - start) (drop start file)))
        (names (above s (λ q. key_of file t steps q)) (take (p.size - length (take (start + size - start) (drop start file))) (front_bytes file t p))) false
    names_above {s} e steps =
        let k = front_bytes file t p in
        let j = above s (λ q. key_of file t steps q) in
        let form : ℕ → List ℕ → Bool = λ n f. pick (ends_at k n f) (names j (take (n - length f) k)) false in
        ap (λ (z : Joined). names z k) (key_above e steps) ∙ names-tail j (fragment_of file item) k
        ∙ ap (λ (n : ℕ). form n (fragment_of file item)) (front_long file t fitting)
        ∙ ap (form p.size) (sym (fragment_taken file item from long))

    module _ (q : Front) (passed : BackPassed file t p (take (start + size - start) (drop start file)) (Some q)) where
      over_names : {s : Result (Option ℕ) Refusal} → climb_from file t.count item ≡ s → (steps : ℕ)
          → names (key_of file t (suc steps) at) (front_bytes file t p) ≡ names (above s (λ q. key_of file t steps q)) (front_bytes file t q)
      unfolding BackPassed
      over_names {s} e steps =
          names_above e steps ∙ pick_true _ _ passed.3
          ∙ ap (λ (n : ℕ). names (above s (λ q. key_of file t steps q)) (take n (front_bytes file t p))) (sym passed.1)
          ∙ ap (names (above s (λ q. key_of file t steps q))) (sym passed.2)

      pub root_over : climb_from file t.count item ≡ Ok None → ItemCompared file t at p (Compared.Ended (eqb q.size 0))
      unfolding ItemCompared BackPassed above names
      root_over e steps = empty_length (front_bytes file t q) (front_long file t passed.0) ∙ sym (over_names e steps)

      pub up_over : {parent : ℕ} → climb_from file t.count item ≡ Ok (Some parent) → ItemCompared file t at p (Compared.Rest parent q)
      unfolding ItemCompared BackPassed above StepFits
      up_over e =
          ((subst (StepFits file t.count item) e (climb_fits file t.count item)).1, passed.0, λ steps. over_names e steps)

    pub ended_differs : BackPassed file t p (take (start + size - start) (drop start file)) None
        → ItemCompared file t at p (Compared.Ended false)
    unfolding ItemCompared BackPassed
    ended_differs other steps = sym (names_above refl steps ∙ pick-false _ _ other)

-- what `compare_item` needs
pub ruleset item_says = (same_refused, same_outside, root_over, up_over, ended_differs)

-- ---- the loop: what the present item's chain says of the present front is what the whole chain says of the whole key

pub record Comparing (file : List ℕ) (t : Table) (first : ℕ) (key : List ℕ) (here : Front) (at left : ℕ) : Type 0 where
  pub below : at < t.count
  pub fitting : FrontFits file t here
  pub same : names (key_of file t left at) (front_bytes file t here) ≡ names (key_of file t t.count first) key

pub same_start : (file : List ℕ) (t : Table) {first index size : ℕ} → first < t.count → Keyed file t index size → {here : Front} → here ≡ front_at file t index size t.count
    → {left : ℕ} → left ≡ t.count → Comparing file t first (bytes_of (key_of file t t.count index)) here first left
unfolding front_bytes front_at
same_start file t {first} {index} {size} h k {here} is all =
    let long : length (bytes_of (key_of file t t.count index)) ≡ size = sized_bytes _ k.sized in
    let z : Comparing file t first (bytes_of (key_of file t t.count index)) (front_at file t index size t.count) first t.count =
    record { below = h; fitting = fitting_start file t k; same = ap (names (key_of file t t.count first)) (take_all size _ (omega arith)) } in
    subst (λ (n : ℕ). Comparing file t first (bytes_of (key_of file t t.count index)) here first n) (sym all)
    (subst (λ (p : Front). Comparing file t first (bytes_of (key_of file t t.count index)) p first t.count) (sym is) z)

module _ (file : List ℕ) (t : Table) (first : ℕ) (key : List ℕ) {here : Front} {at left : ℕ} (i : Comparing file t first key here at left) where
  pub same_over : left ≤ 0 → false ≡ names (key_of file t t.count first) key
  unfolding key_of names
  same_over h =
      let none : left ≡ 0 = omega arith in
      ap (λ (n : ℕ). names (key_of file t n at) (front_bytes file t here)) (sym none) ∙ i.same

  module _ {next : ℕ} (one : left ≡ suc next) where
    turned : names (key_of file t (suc next) at) (front_bytes file t here) ≡ names (key_of file t t.count first) key
    turned = ap (λ (n : ℕ). names (key_of file t n at) (front_bytes file t here)) (sym one) ∙ i.same

    pub same_ended : {answer : Bool} → ItemCompared file t at here (Compared.Ended answer) → answer ≡ names (key_of file t t.count first) key
    unfolding ItemCompared
    same_ended said = said next ∙ turned

    pub same_up : {parent : ℕ} {q : Front} → ItemCompared file t at here (Compared.Rest parent q) → Comparing file t first key q parent next
    unfolding ItemCompared
    same_up (below, fitting, said) = record { below = below; fitting = fitting; same = sym (said next) ∙ turned }
