-- What is laid of one slot: what its pointer covers, where its value starts, its lengths.
use mathlib.Core.Path.{◌≡◌, ap, ◌∙◌}
use mathlib.Core.List.{List}
use Prim.Native.Nat.{ℕ, ◌+◌, ◌*◌, ◌-◌, ◌≤◌}
use native.Mathlib.Omega.{arith}
use lib.ListN.{length, length-append}
use Rattle.words.specs.Store.{part, zeros}
use Rattle.words.specs.Align.{aligned}
use Rattle.words.proofs.StoreLaws.{length-zeros, length_part}
use Rattle.layout.specs.Sizes.{chunk_size}
use Rattle.image.proofs.PlanLaws.{aligned_above}
use Rattle.layout.specs.Kind.{value_kind, table_kind}
use Rattle.write_parts.specs.Numbered.{slot_count, slot_fragment, slot_fragment_size, slot_kind, slot_value_word, slot_value_size, by_kind, slot_cover}
use Rattle.write_parts.specs.Slot.{slot_start, slot_key}
use Rattle.write_parts.proofs.KindLaws.{kind_value, kind_table, kind_container}

-- ---- what its pointer covers, kind by kind

module _ (filter : ℕ) (numbered : List ℕ) (s : ℕ) where
  pub cover_value : slot_kind numbered s ≡ value_kind → slot_cover filter numbered s ≡ slot_value_size numbered s
  unfolding slot_cover
  cover_value e = kind_value _ _ _ _ e

  pub cover_table : slot_kind numbered s ≡ table_kind → slot_cover filter numbered s ≡ 8 + 4 * filter + 28 * slot_count numbered (slot_value_word numbered s)
  unfolding slot_cover chunk_size
  cover_table e = kind_table _ _ _ _ e

  pub cover_container : (slot_kind numbered s ≡ value_kind → ⊥) → (slot_kind numbered s ≡ table_kind → ⊥) → slot_cover filter numbered s ≡ 4 * slot_value_size numbered s
  unfolding slot_cover
  cover_container n m = kind_container _ _ _ _ n m

-- ---- its fragment and the zeros behind it

module _ (numbered : List ℕ) (s : ℕ) where
  pub start_above : (at : ℕ) → at + slot_fragment_size numbered s ≤ slot_start numbered s at
  unfolding slot_start
  start_above at = aligned_above (at + slot_fragment_size numbered s) (by_kind (slot_kind numbered s) 8 4 4)

  pub start_is : (at : ℕ) {size r : ℕ} → size ≡ slot_fragment_size numbered s → r ≡ aligned (at + size) (by_kind (slot_kind numbered s) 8 4 4) → r ≡ slot_start numbered s at
  unfolding slot_start
  start_is at e p = p ∙ ap (λ (n : ℕ). aligned (at + n) (by_kind (slot_kind numbered s) 8 4 4)) e

  -- they end where the value starts
  pub length_key : (arena : List ℕ) (at start : ℕ) → slot_fragment numbered s + slot_fragment_size numbered s ≤ length arena → at + slot_fragment_size numbered s ≤ start
      → at + length (slot_key numbered arena s at start) ≡ start
  unfolding slot_key
  length_key arena at start fits above =
      let pad = start - (at + slot_fragment_size numbered s) in
      omega (
        arith,
        length-append (part arena (slot_fragment numbered s) (slot_fragment_size numbered s)) (zeros pad),
        length_part arena (slot_fragment numbered s) (slot_fragment_size numbered s) fits,
        length-zeros pad,
      )
