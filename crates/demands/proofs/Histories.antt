-- What the items of the model's builder hold under a key, after a history, is what the calls and their answers say.
use Rattle.std.specs.Prelude.{Err, Result}
use Prim.Native.Nat.{ℕ, zero, suc}
use mathlib.Core.Path.{◌≡◌, refl, sym, ap, ◌∙◌}
use mathlib.Core.Bool.{Bool, true, false, ◌&&◌, ◌||◌}
use mathlib.Core.List.{List, [], ◌∷◌, ◌++◌}
use native.Mathlib.Omega.{arith}
use borrow.Author.Tests.{eqb-true, eqb-false, eq-eqb, ne_eqb}
use lib.Dec.{eqb}
use lib.ListN.{length, get_or}
use Rattle.words.specs.Choice.{pick}
use Rattle.words.proofs.ChoiceLaws.{pick_with, pick_same, pick_true, pick-false}
use Rattle.key_order.specs.Prefix.{prefixes}
use Rattle.layout.specs.declared.refusal.Refusal.{Refusal}
use Rattle.layout.specs.declared.refusal.Refusal.TheVariants.{SeparatorOutside, TooManyTables}
use Rattle.layout.specs.Refusal as refusal
use Rattle.model.specs.Table.{Content, Entry}
use Rattle.model.specs.Builder.{Builder, Standing, Reply, result, no_standing, standing_at, separator_of, new_table}
use Rattle.build_memory.specs.Memory.{Memory}
use Rattle.build_tables.specs.Answer.{added_number, added_table}
use Rattle.build_values.specs.Answer.{inserted_number}
use Rattle.demands.specs.Calls.{Call, Does, accepted, Event, History}
use Rattle.demands.specs.Last.{Held, or_else, puts, among, passes, made_by, separator, last, passed, held}
use Rattle.demands.specs.Model.{added, inserted, says, makes, built}
use Rattle.demands.proofs.HeldLaws.{held_in, hit}
use Rattle.demands.proofs.Inserts.{Took, value_took, table_took}
use Rattle.demands.proofs.Models.{calls_are_the_models}

-- ---- separators

eqb_step : (a b : ℕ) → eqb (suc a) (suc b) ≡ eqb a b
eqb_step a b = by (eqb a b) refl
  where
    by : (q : Bool) → eqb a b ≡ q → eqb (suc a) (suc b) ≡ q
    by true e = eq-eqb (suc a) (suc b) (ap suc (eqb-true a b e))
    by false e = let apart = eqb-false a b e in ne_eqb (suc a) (suc b) (λ (z : suc a ≡ suc b). apart (let w : a ≡ b = omega arith in w))

snoc_at : (l : List Standing) (x : Standing) (t : ℕ) → (get_or (l ++ (x ∷ [])) t no_standing).separator ≡ pick (eqb (length l) t) x.separator (get_or l t no_standing).separator
snoc_at [] x zero = sym (pick_true _ _ (eq-eqb 0 0 refl))
snoc_at [] x (suc t) = sym (pick-false _ _ (ne_eqb 0 (suc t) (λ (e : 0 ≡ suc t). omega arith)))
snoc_at (y ∷ l) x zero = sym (pick-false _ _ (ne_eqb (suc (length l)) 0 (λ (e : suc (length l) ≡ 0). omega arith)))
snoc_at (y ∷ l) x (suc t) = snoc_at l x t ∙ ap (λ (b : Bool). pick b x.separator (get_or l t no_standing).separator) (sym (eqb_step (length l) t))

-- a new table has the separator that was given, and the others keep theirs; no item changes
record NewTable (m : Builder) (given : List ℕ) (r : Reply (Result ℕ Refusal)) : Type 0 where
  pub seps : (t : ℕ) → (standing_at r.after t).separator ≡ made_by (Call.new_table given) (added r.answer) t (standing_at m t).separator
  pub items : r.after.items ≡ m.items

not_new : (m : Builder) (given : List ℕ) (why : Refusal) → eqb (refusal.number why) 0 ≡ false → NewTable m given (result (Err why) m)
unfolding made_by added added_number added_table
not_new m given why e = record { seps = λ t. sym (pick-false _ _ (ap (λ (b : Bool). b && eqb 0 t) e)); items = refl }

new_table_is : (m : Builder) (given : List ℕ) → NewTable m given (new_table m given)
unfolding new_table made_by added added_number added_table standing_at
new_table_is m given =
    pick_with (NewTable m given) _ _ _ (λ _. not_new m given SeparatorOutside refl)
    (λ _. pick_with (NewTable m given) _ _ _ (λ _. not_new m given TooManyTables refl) (λ _. record { seps = λ t. snoc_at m.tables _ t; items = refl }))

-- ---- one call

module _ (b : Builder) where
  -- what stood under a key, and what an accepted call makes of it
  abbrev stood : ℕ → List ℕ → Held
  stood t k = held_in b.items t k

  abbrev becomes : Call → ℕ → List ℕ → Held
  becomes call t k = or_else (puts call t k) (pick (passes (standing_at b t).separator call t k) (or_else (stood t k) (Held.holds Content.container)) (stood t k))

  -- a call that puts nothing anywhere
  still : (call : Call) (t : ℕ) (k : List ℕ) → puts call t k ≡ Held.nothing → passes (standing_at b t).separator call t k ≡ false
      → stood t k ≡ pick (accepted (says b call)) (becomes call t k) (stood t k)
  unfolding or_else
  still call t k p q = sym (ap (λ (h : Held). pick (accepted (says b call)) h (stood t k)) (rw p (pick-false _ _ q)) ∙ pick_same (accepted (says b call)) (stood t k))

  sep_step : (call : Call) (t : ℕ) → (standing_at (makes b call) t).separator ≡ made_by call (says b call) t (standing_at b t).separator
  unfolding makes says made_by
  sep_step (Call.new_table given) t = (new_table_is b given).seps t
  sep_step (Call.insert_value u key value) t = (value_took b u key value).seps t
  sep_step (Call.insert_table u key guest) t = (table_took b u key guest).seps t
  sep_step (Call.item_count u) t = refl
  sep_step (Call.write u buffer manner filter) t = refl

  -- the separator of the table that an insert goes into
  its_sep : (u : ℕ) (key : List ℕ) (t : ℕ) (k : List ℕ) → (eqb u t && among (prefixes (standing_at b u).separator key) k) ≡ (eqb u t && among (prefixes (standing_at b t).separator key) k)
  its_sep u key t k = by (eqb u t) refl
    where
      by : (q : Bool) → eqb u t ≡ q → (q && among (prefixes (standing_at b u).separator key) k) ≡ (q && among (prefixes (standing_at b t).separator key) k)
      by true e = ap (λ (x : ℕ). among (prefixes (standing_at b x).separator key) k) (eqb-true u t e)
      by false e = refl

  -- an insert: accepted, it puts its content there; refused, it changes nothing
  insert_step : (u : ℕ) (key : List ℕ) (content : Content) (r : Reply _) → Took b u key content r → (t : ℕ) (k : List ℕ)
      → held_in r.after.items t k
      ≡ pick (eqb (inserted_number r.answer) 0)
      (or_else (pick (hit u key t k) (Held.holds content) Held.nothing)
      (pick (eqb u t && among (prefixes (standing_at b t).separator key) k) (or_else (stood t k) (Held.holds Content.container)) (stood t k)))
      (stood t k)
  insert_step u key content r took t k =
      pick_with (λ (h : Held). held_in r.after.items t k ≡ h) (eqb (inserted_number r.answer) 0) _ (stood t k)
      (λ yes-it-is. took.took yes-it-is t k
      ∙ ap (λ (q : Bool). or_else (pick (hit u key t k) (Held.holds content) Held.nothing) (pick q (or_else (stood t k) (Held.holds Content.container)) (stood t k))) (its_sep u key t k))
      (λ no-it-is. ap (λ (x : Builder). held_in x.items t k) (took.kept no-it-is))

  held_step : (call : Call) (t : ℕ) (k : List ℕ) → held_in (makes b call).items t k ≡ pick (accepted (says b call)) (becomes call t k) (stood t k)
  unfolding makes says inserted puts passes
  held_step (Call.new_table given) t k = ap (λ (l : List Entry). held_in l t k) (new_table_is b given).items ∙ still (Call.new_table given) t k refl refl
  held_step (Call.insert_value u key value) t k = insert_step u key (Content.bytes value) _ (value_took b u key value) t k
  held_step (Call.insert_table u key guest) t k = insert_step u key (Content.nested guest) _ (table_took b u key guest) t k
  held_step (Call.item_count u) t k = still (Call.item_count u) t k refl refl
  held_step (Call.write u buffer manner filter) t k = still (Call.write u buffer manner filter) t k refl refl

-- ---- all calls

abbrev C : Held
C = Held.holds Content.container

-- what is held after an accepted or refused call, from what the last insert put and what was passed before
next_held : (a : Bool) (p : Held) (q : Bool) (l : Held) (r : Bool)
    → pick a (or_else p (pick q (or_else (or_else l (pick r C Held.nothing)) C) (or_else l (pick r C Held.nothing)))) (or_else l (pick r C Held.nothing))
    ≡ or_else (pick a (or_else p l) l) (pick (a && q || r) C Held.nothing)
unfolding pick or_else
next_held false p q l r = refl
next_held true (Held.holds c) q l r = refl
next_held true Held.nothing false l r = refl
next_held true Held.nothing true (Held.holds c) r = refl
next_held true Held.nothing true Held.nothing true = refl
next_held true Held.nothing true Held.nothing false = refl

-- the separator, and what the items hold under a key, are what the calls say
record Held_as (t : ℕ) (k : List ℕ) (b : Builder) (events : List Event) : Type 0 where
  pub sep : (standing_at b t).separator ≡ separator t events
  pub items : held_in b.items t k ≡ held t k events

held_next : (t : ℕ) (k : List ℕ) (b : Builder) (earlier : List Event) (call : Call) → Held_as t k b earlier
    → Held_as t k (makes b call) (record { call = call; said = says b call } ∷ earlier)
unfolding separator held last passed
held_next t k b earlier call was =
    let a = accepted (says b call) in record {
      sep = sep_step b call t ∙ ap (made_by call (says b call) t) was.sep;
      items =
          held_step b call t k
          ∙ ap (λ (s : ℕ). pick a (or_else (puts call t k) (pick (passes s call t k) (or_else (held_in b.items t k) C) (held_in b.items t k))) (held_in b.items t k)) was.sep
          ∙ ap (λ (x : Held). pick a (or_else (puts call t k) (pick (passes (separator t earlier) call t k) (or_else x C) x)) x) was.items
          ∙ next_held a (puts call t k) (passes (separator t earlier) call t k) (last t k earlier) (passed t k earlier);
    }

held_as : (t : ℕ) (k : List ℕ) (room : ℕ) (events : List Event) (m : Memory) → History room events m → Held_as t k (built room events) events
unfolding built held last passed separator standing_at held_in or_else pick
held_as t k room events m (History.start before after s) = record { sep = refl; items = refl }
held_as t k room events m (History.then r earlier before h call said after left d) =
    rw (calls_are_the_models r earlier before h call said after left d).0 (held_next t k (built r earlier) earlier call (held_as t k r earlier before h))

pub held_is : (t : ℕ) (k : List ℕ) (room : ℕ) (events : List Event) (m : Memory) → History room events m → held_in (built room events).items t k ≡ held t k events
held_is t k room events m h = (held_as t k room events m h).items
