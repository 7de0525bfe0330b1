-- 8 comes with the offset at which the given key is bad.
use Rattle.std.specs.Prelude.{Err}
use Rattle.model.specs.Inserted.{Inserted}
use Prim.Native.Nat.{ℕ, ◌+◌}
use mathlib.Core.Path.{◌≡◌}
use mathlib.Core.List.{List, []}
use mathlib.Core.Bool.{true}
use native.Mathlib.Omega.{arith}
use lib.Dec.{ltb}
use lib.ListN.{length}
use borrow.Author.Tests.{eqb-false, ne_eqb}
use Rattle.words.specs.Choice.{pick}
use Rattle.words.proofs.ChoiceLaws.{pick_with}
use Rattle.text.specs.Bad.{BadText}
use Rattle.layout.specs.Kind.{table_kind}
use Rattle.layout.specs.Limits.{deepest}
use Rattle.layout.specs.declared.refusal.Refusal.TheVariants.{MemoryBroken, TableUnknown, TableInItself, KeyNotUtf8}
use Rattle.build_memory.specs.Memory.{valid, Outcome}
use Rattle.build_memory.specs.Item.{stored}
use Rattle.build_tables.specs.Table.{free_standing}
use Rattle.build_values.proofs.BadLaws.{Other, refused_other, path_other, keyed_eight, eight_keyed}
use Rattle.build_nested.specs.Nest.{held_height, settled, nested, nest_at_key, insert_table}
use Rattle.build_nested.specs.Bad.{EightAt}

module _ (ws ar : List ℕ) (at : ℕ) (t : ℕ) (key : List ℕ) (guest : ℕ) where
  nested_other : Other ws ar at (nested ws ar t key guest)
  unfolding nested settled
  nested_other = record { no = (path_other ws ar at t key (stored table_kind [] guest) (ltb deepest (held_height ws guest + 1 + 1))).no }

  abbrev Asked : Type 0
  Asked = (valid ws (length ar) ≡ true) × (free_standing ws t ≡ true) × (free_standing ws guest ≡ true) × (t ≡ guest → ⊥) × BadText key at

  table_bad : (insert_table ws ar t key guest).answer ≡ Err (KeyNotUtf8 at) → Asked
  unfolding insert_table nest_at_key
  table_bad =
      let P : Outcome Inserted → Type 0 = λ o. o.answer ≡ Err (KeyNotUtf8 at) → Asked in
      pick_with P _ _ _
      (λ ok. pick_with P _ _ _
      (λ free. pick_with P _ _ _
      (λ loose. pick_with P _ _ _ (λ _ e. absurd ((refused_other ws ar at TableInItself (λ f. omega arith)).no e))
      (λ two e. (ok, free, loose, eqb-false t guest two, keyed_eight ws ar at key _ nested_other e)))
      (λ _ e. absurd ((refused_other ws ar at TableUnknown (λ f. omega arith)).no e)))
      (λ _ e. absurd ((refused_other ws ar at TableUnknown (λ f. omega arith)).no e)))
      (λ _ e. absurd ((refused_other ws ar at MemoryBroken (λ f. omega arith)).no e))

  bad_table : Asked → (insert_table ws ar t key guest).answer ≡ Err (KeyNotUtf8 at)
  unfolding insert_table nest_at_key pick
  bad_table (ok, free, loose, two, bad) = rw (ok, free, loose, ne_eqb t guest two) (eight_keyed ws ar at key _ bad)

pub eight_at : EightAt
eight_at ws ar t key guest at = (table_bad ws ar at t key guest, bad_table ws ar at t key guest)
