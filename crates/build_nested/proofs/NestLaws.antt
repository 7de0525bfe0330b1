-- The laws of heights, and of nesting that is too deep.
use Rattle.std.specs.Prelude.{Ok, Err, Some, None}
use Rattle.model.specs.Inserted.{Inserted}
use Prim.Native.Nat.{ℕ, ◌+◌, ◌-◌, ◌<◌}
use native.Mathlib.Omega.{arith}
use mathlib.Core.Path.{◌≡◌, refl, sym, ap, ◌∙◌}
use mathlib.Core.Bool.{Bool, true, false}
use mathlib.Core.List.{List, []}
use borrow.Author.Tests.{eq-eqb, ne_eqb, lt-ltb, le-ltb, leb-true, leb-false}
use lib.Dec.{ltb, leb}
use Rattle.words.specs.Choice.{pick}
use Rattle.layout.specs.declared.refusal.Refusal.{Refusal}
use Rattle.layout.specs.Limits.{most_tables, deepest}
use Rattle.layout.specs.Kind.{table_kind}
use Rattle.build_memory.specs.Memory.{table_height, item_table, item_kind, item_guest, Memory, Outcome, outcome}
use Rattle.build_memory.specs.Item.{stored}
use Rattle.build_values.specs.Walk.{way_of}
use Rattle.build_values.specs.Insert.{refused, insert_or_replace, insert_below_path}
use Rattle.build_nested.specs.Nest.{held_at}

-- ---- the heights that a table holds

module _ (ws : List ℕ) (t i own : ℕ) (eo : own ≡ item_table ws i) where
  pub held_other : (own ≡ t → ⊥) → 0 ≡ held_at ws t i
  unfolding held_at pick
  held_other e = simp (← eo, ne_eqb _ _ e)

  module _ (is : own ≡ t) (kind : ℕ) (ek : kind ≡ item_kind ws i) where
    pub held_kind : (kind ≡ table_kind → ⊥) → 0 ≡ held_at ws t i
    unfolding held_at pick
    held_kind e = simp (← eo, ← ek, eq-eqb _ _ is, ne_eqb _ _ e)

    module _ (nest : kind ≡ table_kind) (guest : ℕ) (eg : guest ≡ item_guest ws i) where
      pub held_guest : guest < most_tables → table_height ws guest ≡ held_at ws t i
      unfolding held_at pick
      held_guest h = simp (← eo, ← ek, ← eg, eq-eqb _ _ is, eq-eqb _ _ nest, lt-ltb _ _ h)

-- ---- too deep

-- the guest's height is one more than what it holds, the receiver's one more than that
pub deep_is : (held h : ℕ) → h ≡ held → leb (deepest - 1) h ≡ ltb deepest (held + 1 + 1)
deep_is held h e = by_test (leb 7 h) refl
  where
    by_test : (q : Bool) → leb 7 h ≡ q → leb 7 h ≡ ltb 8 (held + 1 + 1)
    by_test true f = let l = leb-true 7 h f in f ∙ sym (lt-ltb 8 (held + 1 + 1) (omega arith))
    by_test false f = let l = leb-false 7 h f in f ∙ sym (le-ltb 8 (held + 1 + 1) (omega arith))

abbrev pub Accepted : Inserted → Type 0
Accepted (Ok _) = Unit {0}
Accepted (Err why) = ⊥

-- an accepted insert is not too deep
module _ (ws ar : List ℕ) (t : ℕ) (key : List ℕ) (guest : ℕ) where
  deep_refused : (clear deep : Bool) → deep ≡ true → (o : Outcome Inserted)
      → Accepted (pick clear (pick deep (refused Refusal.NestedTooDeep ws ar) o) (refused Refusal.NotContainer ws ar)).answer → ⊥
  unfolding pick
  deep_refused true true e o a = a
  deep_refused true false e o a = absurd (let z : ◌≡◌ {A = ℕ} 0 1 = cc in omega arith)
  deep_refused false deep e o a = a

  pub accepted_low : (h : ℕ) → (r : Inserted) (m : Memory) → outcome r m ≡ insert_below_path ws ar t key (stored table_kind [] guest) (leb (deepest - 1) h)
      → (r' : Inserted) → r ≡ r' → Accepted r' → h < 7
  unfolding insert_below_path
  accepted_low h r m e r' p a = by_test (leb 7 h) refl
    where
      here : Accepted (insert_below_path ws ar t key (stored table_kind [] guest) (leb 7 h)).answer
      here = a'
        where
          a' : Accepted (insert_below_path ws ar t key (stored table_kind [] guest) (leb 7 h)).answer
          a' = rw (sym (ap (λ (o : Outcome Inserted). o.answer) e), p) a

      by_test : (q : Bool) → leb 7 h ≡ q → h < 7
      by_test true f = absurd (deep_refused (way_of ws ar t key).clear (leb 7 h) f (insert_or_replace ws ar t key (stored table_kind [] guest) (way_of ws ar t key).from (way_of ws ar t key).parent) here)
      by_test false f = leb-false 7 h f
