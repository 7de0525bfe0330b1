-- A table that was put into another stays placed, whatever is inserted: also once the item that held it holds something else.
use Rattle.std.specs.Prelude.{Ok, Err, Some, None}
use Rattle.model.specs.Inserted.{Inserted}
use Prim.Native.Nat.{ℕ}
use mathlib.Core.Path.{◌≡◌, refl, sym, ap, ◌∙◌}
use mathlib.Core.Bool.{Bool, true, false, not}
use mathlib.Core.List.{List}
use native.Mathlib.Omega.{arith}
use lib.Dec.{ltb}
use lib.ListN.{length, get_or}
use lib.Seq.{get_or-set_other}
use Rattle.words.specs.Choice.{pick}
use Rattle.words.proofs.ChoiceLaws.{pick_with, both}
use Rattle.model.specs.Walk.{Walked}
use Rattle.model.specs.Builder.{Builder, Standing, no_standing, Reply, result, standing_at, free_standing, counted, at_walked, put, keyed, insert_value, place, when_accepted, settled, insert_table}

-- ---- the insert itself changes no table

module _ (m : Builder) where
  abbrev SameTables : Reply Inserted → Type 0
  SameTables r = r.after.tables ≡ m.tables

  same : (test : Bool) (r s : Reply Inserted) → SameTables r → SameTables s → SameTables (pick test r s)
  same test r s e f = pick_with SameTables test r s (λ _. e) (λ _. f)

  walked_same : (w : Walked) (deep : Bool) (t : ℕ) (key : List ℕ) (size : ℕ) → SameTables (at_walked w deep m t key size)
  unfolding at_walked counted
  walked_same Walked.blocked deep t key size = refl
  walked_same (Walked.walked after) deep t key size = same deep _ _ refl (same _ _ _ refl (same _ _ _ refl refl))

  pub value_keeps_tables : (t : ℕ) (key value : List ℕ) → (insert_value m t key value).after.tables ≡ m.tables
  unfolding insert_value keyed put
  value_keeps_tables t key value = same _ _ _ (same _ _ _ (same _ _ _ refl (walked_same _ false t key _)) refl) refl

-- ---- a placed table stays placed

module _ (m : Builder) (u : ℕ) (placed : (standing_at m u).placed ≡ true) where
  abbrev Stays : Reply Inserted → Type 0
  Stays r = (standing_at r.after u).placed ≡ true

  unchanged : (r : Reply Inserted) → r.after.tables ≡ m.tables → Stays r
  unfolding standing_at
  unchanged r e = ap (λ (tables : List Standing). (get_or tables u no_standing).placed) e ∙ placed

  stays : (test : Bool) (r s : Reply Inserted) → (test ≡ true → Stays r) → Stays s → Stays (pick test r s)
  stays test r s e f = pick_with Stays test r s e (λ _. f)

  pub value_stays_placed : (t : ℕ) (key value : List ℕ) → (standing_at (insert_value m t key value).after u).placed ≡ true
  value_stays_placed t key value = unchanged (insert_value m t key value) (value_keeps_tables m t key value)

  -- the guest was not placed, so it is another
  other : (guest : ℕ) → free_standing m guest ≡ true → u ≡ guest → ⊥
  unfolding free_standing
  other guest free e =
      let loose : not (standing_at m guest).placed ≡ true = (both (ltb guest (length m.tables)) _ free).1 in
      let is : (standing_at m guest).placed ≡ true = ap (λ (t : ℕ). (standing_at m t).placed) (sym e) ∙ placed in
      let z : false ≡ true = ap not (sym is) ∙ loose in
      let one : ◌≡◌ {A = ℕ} 0 1 = cc in omega arith

  settled_stays : (guest : ℕ) → (u ≡ guest → ⊥) → (answer : Inserted) (after : Builder) → (standing_at after u).placed ≡ true → Stays (settled guest (result answer after))
  unfolding settled when_accepted place standing_at
  settled_stays guest apart (Ok _) after e = ap (λ (s : Standing). s.placed) (get_or-set_other after.tables guest u _ no_standing apart) ∙ e
  settled_stays guest apart (Err why) after e = e

  pub table_stays_placed : (t : ℕ) (key : List ℕ) (guest : ℕ) → (standing_at (insert_table m t key guest).after u).placed ≡ true
  unfolding insert_table keyed put
  table_stays_placed t key guest =
      stays _ _ _
      (λ _. stays _ _ _
      (λ free. stays _ _ _ (λ _. placed)
      (stays _ _ _
      (λ _. stays _ _ _ (λ _. placed) (settled_stays guest (other guest free) _ _ (unchanged (at_walked _ _ m t key 0) (walked_same m _ _ t key 0))))
      placed)) placed) placed
