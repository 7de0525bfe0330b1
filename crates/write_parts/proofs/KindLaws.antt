-- The choice by kind, case by case.
use mathlib.Core.Path.{◌≡◌}
use Prim.Native.Nat.{ℕ}
use native.Mathlib.Omega.{arith}
use borrow.Author.Tests.{eq-eqb, ne_eqb}
use lib.Dec.{eqb}
use Rattle.words.specs.Choice.{pick}
use Rattle.words.proofs.ChoiceLaws.{pick_same}
use Rattle.layout.specs.Kind.{value_kind, table_kind}
use Rattle.write_parts.specs.Numbered.{by_kind}

module _ {A : Type 0} (kind : ℕ) (value table container : A) where
  pub kind_value : kind ≡ value_kind → by_kind kind value table container ≡ value
  unfolding by_kind pick
  kind_value e = rw (eq-eqb kind 118 e)

  pub kind_table : kind ≡ table_kind → by_kind kind value table container ≡ table
  unfolding by_kind pick
  kind_table e = rw (ne_eqb kind 118 (λ f. omega arith), eq-eqb kind 72 e)

  pub kind_container : (kind ≡ value_kind → ⊥) → (kind ≡ table_kind → ⊥) → by_kind kind value table container ≡ container
  unfolding by_kind pick
  kind_container n m = rw (ne_eqb kind 118 n, ne_eqb kind 72 m)

-- where a table and a container have the same
pub kind_rest : {A : Type 0} (kind : ℕ) (value other : A) → (kind ≡ value_kind → ⊥) → by_kind kind value other other ≡ other
unfolding by_kind pick
kind_rest kind value other n = rw (ne_eqb kind 118 n) (pick_same (eqb kind 72) other)
