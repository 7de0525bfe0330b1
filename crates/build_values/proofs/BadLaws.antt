-- 8 comes with the offset at which the given key is bad.
use Rattle.std.specs.Prelude.{Err}
use Rattle.model.specs.Inserted.{Inserted}
use Prim.Native.Nat.{ℕ}
use mathlib.Core.Path.{◌≡◌, sym, ap, subst}
use mathlib.Core.List.{List}
use mathlib.Core.Bool.{Bool, true, false}
use native.Mathlib.Omega.{arith}
use lib.ListN.{length}
use Rattle.words.specs.Choice.{pick}
use Rattle.words.proofs.ChoiceLaws.{pick_with}
use Rattle.text.specs.Bad.{BadText}
use Rattle.text.proofs.BadLaws.{bad_text, bad_no_utf8}
use Rattle.layout.specs.Kind.{value_kind}
use Rattle.layout.specs.Refusal.{number}
use Rattle.layout.specs.declared.refusal.Refusal.{Refusal}
use Rattle.layout.specs.declared.refusal.Refusal.TheVariants.{MemoryBroken, TableUnknown, KeyNotUtf8, KeyTooLong, NotContainer, TooManyItems, ArenaFull, NestedTooDeep}
use Rattle.build_memory.specs.Memory.{valid, Outcome}
use Rattle.build_memory.specs.Item.{Stored, stored}
use Rattle.build_tables.specs.Table.{free_standing}
use Rattle.build_values.specs.Insert.{refused, insert_new, overwrite, insert_or_replace, insert_below_path, keyed, insert_at_key, insert_value}
use Rattle.build_values.specs.Bad.{EightAt}

module _ (ws ar : List ℕ) (at : ℕ) where
  -- an answer that is not 8
  pub record Other (o : Outcome Inserted) : Type 0 where
    pub no : o.answer ≡ Err (KeyNotUtf8 at) → ⊥

  pub refused_other : (why : Refusal) → (number why ≡ 8 → ⊥) → Other (refused why ws ar)
  refused_other why n = record { no = λ e. let is : why ≡ KeyNotUtf8 at = cc in n (ap number is) }

  pick_other : (b : Bool) (o p : Outcome Inserted) → Other o → Other p → Other (pick b o p)
  pick_other b o p x y = pick_with Other b o p (λ _. x) (λ _. y)

  pub path_other : (t : ℕ) (key : List ℕ) (c : Stored) (deep : Bool) → Other (insert_below_path ws ar t key c deep)
  unfolding insert_below_path insert_or_replace insert_new overwrite
  path_other t key c deep =
      let full = refused_other ArenaFull (λ e. omega arith) in
      pick_other _ _ _
      (pick_other _ _ _ (refused_other NestedTooDeep (λ e. omega arith))
      (pick_other _ _ _ (pick_other _ _ _ full (record { no = λ e. let z : ◌≡◌ {A = ℕ} 0 1 = cc in omega arith }))
      (pick_other _ _ _ (refused_other TooManyItems (λ e. omega arith)) (pick_other _ _ _ full (record { no = λ e. let z : ◌≡◌ {A = ℕ} 0 1 = cc in omega arith })))))
      (refused_other NotContainer (λ e. omega arith))

  module _ (key : List ℕ) where
    pub keyed_eight : (next : Outcome Inserted) → Other next → (keyed ws ar key next).answer ≡ Err (KeyNotUtf8 at) → BadText key at
    unfolding keyed
    keyed_eight next x =
        let P : Outcome Inserted → Type 0 = λ o. o.answer ≡ Err (KeyNotUtf8 at) → BadText key at in
        pick_with P _ _ _ (λ _ e. absurd ((pick_other _ _ _ (refused_other KeyTooLong (λ f. omega arith)) x).no e)) (λ bad e. subst (BadText key) (cc) (bad_text key bad))

    pub eight_keyed : (next : Outcome Inserted) → BadText key at → (keyed ws ar key next).answer ≡ Err (KeyNotUtf8 at)
    unfolding keyed pick
    eight_keyed next bad = rw (bad_no_utf8 key bad) (ap (λ (n : ℕ). Err (KeyNotUtf8 n)) (sym bad.is))

    value_bad : (t : ℕ) (value : List ℕ) → (insert_value ws ar t key value).answer ≡ Err (KeyNotUtf8 at)
        → (valid ws (length ar) ≡ true) × (free_standing ws t ≡ true) × BadText key at
    unfolding insert_value insert_at_key
    value_bad t value =
        let P : Outcome Inserted → Type 0 = λ o. o.answer ≡ Err (KeyNotUtf8 at) → (valid ws (length ar) ≡ true) × (free_standing ws t ≡ true) × BadText key at in
        pick_with P _ _ _
        (λ ok. pick_with P _ _ _ (λ free e. (ok, free, keyed_eight _ (path_other t key (stored value_kind value 0) false) e)) (λ _ e. absurd ((refused_other TableUnknown (λ f. omega arith)).no e)))
        (λ _ e. absurd ((refused_other MemoryBroken (λ f. omega arith)).no e))

    bad_value : (t : ℕ) (value : List ℕ) → ((valid ws (length ar) ≡ true) × (free_standing ws t ≡ true) × BadText key at)
        → (insert_value ws ar t key value).answer ≡ Err (KeyNotUtf8 at)
    unfolding insert_value insert_at_key pick
    bad_value t value (ok, free, bad) = rw (ok, free) (eight_keyed _ bad)

pub eight_at : EightAt
eight_at ws ar t key value at = (value_bad ws ar at key t value, bad_value ws ar at key t value)
