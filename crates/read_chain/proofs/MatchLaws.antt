-- The loop over a chain decides what the definition says: a chain of one item more names a key just where the key ends in the item's
-- fragment and the parent's chain names the front.
use Rattle.std.specs.Prelude.{Result, Ok, Err, Option, Some, None}
use Rattle.std.specs.Result.{is_err}
use Prim.Native.Nat.{ℕ, suc, ◌+◌, ◌-◌, ◌≤◌, ◌<◌}
use mathlib.Core.Path.{◌≡◌, refl, sym, ap, ◌∙◌, subst}
use mathlib.Core.List.{List, [], ◌∷◌, ◌++◌}
use mathlib.Core.Bool.{Bool, true, false, ◌&&◌}
use native.Mathlib.Omega.{arith}
use lib.ListN.{length, take, drop, length-append}
use lib.Seq.{take-length, take-take, drop_at, length-take-le}
use lib.Dec.{eqb}
use borrow.Author.Tests.{le-leb, eqb-true, eqb-false}
use Rattle.words.specs.Choice.{pick}
use Rattle.words.proofs.ChoiceLaws.{pick_with, pick_same}
use Rattle.text.specs.Utf8.{first_bad, is_utf8, starts_whole}
use Rattle.key_order.specs.Compare.{same_bytes, ends_at}
use Rattle.text.proofs.Utf8Parts.{front_text, end_text}
use Rattle.key_order.proofs.CompareLaws.{same_equal, same_refl, equal_same, same_lengths, ends_split}
use Rattle.layout.specs.declared.refusal.Refusal.{Refusal}
use Rattle.layout.specs.declared.refusal.Refusal.TheVariants.{FragmentNotUtf8}
use Rattle.layout.specs.declared.table.Table.{Table}
use Rattle.layout.specs.declared.item.Item.{Item}
use Rattle.layout.specs.Pointer.{open_pointer}
use Rattle.layout.specs.Item.{item_at}
use Rattle.read_chain.specs.declared.chain.Matched.{Matched}
use Rattle.read_chain.specs.Chain.{parent_of, Joined, append, join_step, key_of, names, match_tail, match_step, match_text, match_item}
use Rattle.layout.proofs.OpenLaws.{pointer_inside}
use Rattle.read_chain.proofs.ChainLaws.{fragment_taken, parent_root, parent_up, parent_outside, climb_refused, climb_inside, up_text, StepFits, climb_fits}

-- ---- two keys with one tail

pub same_cancel : (k f a : List ℕ) → same_bytes (k ++ f) (a ++ f) ≡ same_bytes k a
unfolding same_bytes
same_cancel [] f [] = same_refl f
same_cancel [] f (x ∷ a) = same_lengths f (x ∷ (a ++ f)) (λ h. omega (arith, length-append a f))
same_cancel (y ∷ k) f [] = same_lengths (y ∷ (k ++ f)) f (λ h. omega (arith, length-append k f))
same_cancel (y ∷ k) f (x ∷ a) = ap (λ (q : Bool). eqb y x && q) (same_cancel k f a)

pub ends_joined : (k f : List ℕ) → ends_at (k ++ f) (length (k ++ f)) f ≡ true
unfolding ends_at
ends_joined k f =
    let whole : length (k ++ f) ≡ length k + length f = length-append k f in
    let front : length (k ++ f) - length f ≡ length k = omega arith in
    rw (le-leb (length f) (length (k ++ f)) (omega arith), front, drop_at k f (length k) refl, take-length) (same_refl f)

-- a joined key is a given one where that ends in the fragment and its front is what was joined above
pub names-tail : (above : Joined) (f key : List ℕ)
    → names (append above f) key ≡ pick (ends_at key (length key) f) (names above (take (length key - length f) key)) false
unfolding names append
names-tail (Joined.broken why) f key = sym (pick_same _ false)
names-tail (Joined.joined k) f key =
    pick_with (λ (q : Bool). same_bytes (k ++ f) key ≡ q) (ends_at key (length key) f) _ _
    (λ e.
    let m = length key - length f in
    let split : key ≡ take m key ++ f = sym (take-length key) ∙ (ends_split key (length key) f e).1 in
    ap (same_bytes (k ++ f)) split ∙ same_cancel k f (take m key))
    (λ e. unequal (same_bytes (k ++ f) key) refl e)
  where
    unequal : (q : Bool) → same_bytes (k ++ f) key ≡ q → ends_at key (length key) f ≡ false → q ≡ false
    unequal true e n =
        let whole : k ++ f ≡ key = same_equal _ _ e in
        sym (subst (λ (l : List ℕ). ends_at l (length l) f ≡ true) whole (ends_joined k f)) ∙ n
    unequal false e n = refl

-- ---- one step

-- what is left to ask after a step
unfoldable pub after_match : List ℕ → Table → ℕ → List ℕ → Matched → Bool
after_match file t steps key (Matched.Ended answer) = answer
after_match file t steps key (Matched.Rest parent size) = names (key_of file t steps parent) (take size key)

after_pick : (file : List ℕ) (t : Table) (steps : ℕ) (key : List ℕ) (q : Bool) (parent size : ℕ)
    → after_match file t steps key (pick q (Matched.Rest parent size) (Matched.Ended false)) ≡ pick q (names (key_of file t steps parent) (take size key)) false
unfolding after_match pick
after_pick file t steps key true parent size = refl
after_pick file t steps key false parent size = refl

match_step_lem : (file : List ℕ) (t : Table) (steps : ℕ) (s : Result (Option ℕ) Refusal) (f key : List ℕ)
    → names (join_step s f (λ parent. key_of file t steps parent)) key ≡ after_match file t steps key (match_step s f key)
unfolding join_step match_step match_tail after_match names
match_step_lem file t steps (Ok None) f key = refl
match_step_lem file t steps (Ok (Some parent)) f key =
    names-tail (key_of file t steps parent) f key ∙ sym (after_pick file t steps key (ends_at key (length key) f) parent (length key - length f))
match_step_lem file t steps (Err why) f key = refl

match_law : (file : List ℕ) (t : Table) (steps index : ℕ) (key : List ℕ)
    → names (key_of file t (suc steps) index) key ≡ after_match file t steps key (match_item file t index key)
unfolding key_of match_item
match_law file t steps index key = match_step_lem file t steps _ _ key

-- what a fragment says, test by test
module _ (f key : List ℕ) where
  -- a key that does not end in the fragment is no match, whatever the step
  step_other : ends_at key (length key) f ≡ false → (s : Result (Option ℕ) Refusal) → Matched.Ended false ≡ match_step s f key
  unfolding match_step match_tail pick
  step_other other (Ok None) = ap Matched.Ended (sym (unequal (same_bytes f key) refl))
    where
      unequal : (q : Bool) → same_bytes f key ≡ q → q ≡ false
      unequal true e = sym (subst (λ (l : List ℕ). ends_at l (length l) f ≡ true) (same_equal f key e) (ends_joined [] f)) ∙ other
      unequal false e = refl
  step_other other (Ok (Some parent)) = rw other
  step_other other (Err why) = refl

  pub match_other : (step : Result (Option ℕ) Refusal) → ends_at key (length key) f ≡ false → Matched.Ended false ≡ match_text step f key
  unfolding match_text
  match_other step other = step_other other (pick (is_utf8 f) step (Err (FragmentNotUtf8 (first_bad f))))

  -- the key ends in the fragment
  module _ (ends : ends_at key (length key) f ≡ true) where
    joins : key ≡ take (length key - length f) key ++ f
    joins = sym (take-length key) ∙ (ends_split key (length key) f ends).1

    root_length : eqb (length f) (length key) ≡ same_bytes f key
    root_length = go (eqb (length f) (length key)) refl
      where
        go : (q : Bool) → eqb (length f) (length key) ≡ q → q ≡ same_bytes f key
        go true e =
            let none : length key - length f ≡ 0 = omega (arith, eqb-true (length f) (length key) e) in
            let whole : key ≡ f = joins ∙ ap (λ (n : ℕ). take n key ++ f) none in
            sym (equal_same f key (sym whole))
        go false e = sym (same_lengths f key (eqb-false _ _ e))

    -- at the end of a key that is a text, it is one just where it cuts no character, and so is the front
    module _ (text : is_utf8 key ≡ true) where
      ends_text : starts_whole f ≡ is_utf8 f
      ends_text = end_text (take (length key - length f) key) f (sym (ap is_utf8 joins) ∙ text)

      ends_front : is_utf8 f ≡ true → is_utf8 (take (length key - length f) key) ≡ true
      ends_front good = front_text (take (length key - length f) key) f (sym (ap is_utf8 joins) ∙ text) (ends_text ∙ good)

      pub match_cut : (step : Result (Option ℕ) Refusal) → starts_whole f ≡ false → Matched.Ended false ≡ match_text step f key
      unfolding match_text match_step pick
      match_cut step cuts = rw (sym ends_text ∙ cuts)

      module _ (whole : starts_whole f ≡ true) where
        good : is_utf8 f ≡ true
        good = sym ends_text ∙ whole

        pub text_refused : {step : Result (Option ℕ) Refusal} {why : Refusal} → step ≡ Err why → Matched.Ended false ≡ match_text step f key
        unfolding match_text match_step pick
        text_refused e = rw (good, e)

        pub text_root : {step : Result (Option ℕ) Refusal} → step ≡ Ok None → Matched.Ended (eqb (length f) (length key)) ≡ match_text step f key
        unfolding match_text match_step pick
        text_root e = rw (good, e, root_length)

        pub text_up : {step : Result (Option ℕ) Refusal} {parent : ℕ} → step ≡ Ok (Some parent) → Matched.Rest parent (length key - length f) ≡ match_text step f key
        unfolding match_text match_step match_tail pick
        text_up e = rw (good, e, ends)

-- a pointer that is refused, and one that is not
refused : {p : Result (Unit {0}) Refusal} → is_err p ≡ true → (why : Refusal) × (p ≡ Err why)
refused {p = Ok _} err = let z : ◌≡◌ {A = ℕ} 0 1 = cc in absurd (omega arith)
refused {p = Err why} err = (why, refl)

pub opens : {p : Result (Unit {0}) Refusal} → is_err p ≡ false → p ≡ Ok tt
opens {p = Ok _} good = refl
opens {p = Err why} good = let z : ◌≡◌ {A = ℕ} 0 1 = cc in absurd (omega arith)

-- what the item at hand says, with its fragment's offset and size as the code has them
module _ (file : List ℕ) (t : Table) (index : ℕ) (key : List ℕ) {item : Item} (is : item ≡ item_at file t index) {start size : ℕ} (s : start ≡ item.key) (z : size ≡ item.size) where
  pub match_refused : is_err (open_pointer (length file) start (start + size) 1) ≡ true → Matched.Ended false ≡ match_item file t index key
  unfolding match_item match_step
  match_refused err = let e = refused err in rw (← is, ← climb_refused file t.count item s z e.1)

  pub match_inside : open_pointer (length file) start (start + size) 1 ≡ Ok tt
      → match_text (parent_of t.count item.parent) (take (start + size - start) (drop start file)) key ≡ match_item file t index key
  unfolding match_item match_text
  match_inside e = rw (← is, climb_inside file t.count item s z e, fragment_taken file item s z)

-- what `match_fragment` and `match_item` need
pub ruleset fragment_says = (parent_root, parent_up, parent_outside, match_other, match_cut, text_refused, text_root, text_up)

pub ruleset item_says = (pointer_inside, opens, match_refused, match_inside)

-- what a match that goes on tells
unfoldable pub MatchFits : ℕ → List ℕ → Matched → Type 0
MatchFits count key (Matched.Ended answer) = Unit
MatchFits count key (Matched.Rest parent rest) = (parent < count) × (rest ≤ length key) × (is_utf8 key ≡ true → is_utf8 (take rest key) ≡ true)

match_step_fits : (file : List ℕ) (count : ℕ) (item : Item) (s : Result (Option ℕ) Refusal) (f key : List ℕ) → StepFits file count item s → ((parent : ℕ) → s ≡ Ok (Some parent) → is_utf8 f ≡ true)
    → MatchFits count key (match_step s f key)
unfolding match_step match_tail StepFits MatchFits
match_step_fits file count item (Ok None) f key h text = tt
match_step_fits file count item (Err why) f key h text = tt
match_step_fits file count item (Ok (Some parent)) f key h text =
    pick_with (MatchFits count key) _ _ _ (λ ends. (h.1, omega arith, λ good. ends_front f key ends good (text parent refl))) (λ _. tt)

match_fits : (file : List ℕ) (t : Table) (index : ℕ) (key : List ℕ) → MatchFits t.count key (match_item file t index key)
unfolding match_item
match_fits file t index key =
    match_step_fits file t.count (item_at file t index) _ _ key (climb_fits file t.count (item_at file t index)) (λ parent e. up_text file t.count (item_at file t index) e)

-- ---- the loop: what the chain of the present item says of the front of the key that is left is what the whole chain says of the whole key

pub record Climbing (file : List ℕ) (t : Table) (index : ℕ) (key : List ℕ) (at end left : ℕ) : Type 0 where
  pub below : at < t.count
  pub within : end ≤ length key
  pub text : is_utf8 (take end key) ≡ true
  pub same : names (key_of file t left at) (take end key) ≡ names (key_of file t t.count index) key

module _ (file : List ℕ) (t : Table) (index : ℕ) (key : List ℕ) where
  pub start : index < t.count → is_utf8 key ≡ true → {left : ℕ} → left ≡ t.count → Climbing file t index key index (length key) left
  start h good all = record { below = h; within = omega arith; text = ap is_utf8 (take-length key) ∙ good; same = rw (take-length, all) }

  module _ {at end left : ℕ} (i : Climbing file t index key at end left) where
    module _ {next : ℕ} (one : left ≡ suc next) {m : Matched} (is : m ≡ match_item file t at (take end key)) where
      turn : after_match file t next (take end key) m ≡ names (key_of file t t.count index) key
      turn =
          ap (after_match file t next (take end key)) is
          ∙ sym (ap (λ (n : ℕ). names (key_of file t n at) (take end key)) one ∙ match_law file t next at (take end key))
          ∙ i.same

      pub ended : {answer : Bool} → m ≡ Matched.Ended answer → answer ≡ names (key_of file t t.count index) key
      unfolding after_match
      ended e = rw e at turn

      pub up : {parent size : ℕ} → m ≡ Matched.Rest parent size → Climbing file t index key parent size next
      unfolding after_match MatchFits
      up {parent} {size} told =
          let e : match_item file t at (take end key) ≡ Matched.Rest parent size = sym is ∙ told in
          let fits = subst (MatchFits t.count (take end key)) e (match_fits file t at (take end key)) in
          let shorter : length (take end key) ≡ end = length-take-le end key i.within in
          let le : size ≤ end = omega (arith, fits.1) in
          record {
            below = fits.0;
            within = omega (arith, i.within);
            text = sym (ap is_utf8 (take-take size end key le)) ∙ fits.2 i.text;
            same = ap (names (key_of file t next parent)) (sym (take-take size end key le)) ∙ (rw told at turn);
          }

    pub over : left ≤ 0 → false ≡ names (key_of file t t.count index) key
    unfolding key_of names
    over h =
        let none : left ≡ 0 = omega arith in
        ap (λ (n : ℕ). names (key_of file t n at) (take end key)) (sym none) ∙ i.same

-- what `chain_names` needs
pub ruleset chain_says = (start, over)
