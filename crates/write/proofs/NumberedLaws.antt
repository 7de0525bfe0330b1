-- A numbered table of a memory lays the image that the memory means.
use mathlib.Core.Path.{◌≡◌, refl, sym, ap, ◌∙◌}
use mathlib.Core.Logic.{◌⊎◌, inl, inr, ⊎_elim}
use mathlib.Core.List.{List, ◌++◌}
use Prim.Native.Nat.{ℕ, zero, suc, ◌+◌, ◌<◌}
use native.Mathlib.Omega.{arith}
use lib.ListN.{length}
use Rattle.words.specs.Store.{part, zeros}
use Rattle.image.specs.Plan.{words_of}
use Rattle.image.specs.Fits.{SamePlan}
use Rattle.layout.specs.Sizes.{header_size}
use Rattle.layout.specs.Limits.{deepest, most_tables, most_items}
use Rattle.image.specs.Image.{plan_of, table_bytes, image_of}
use Rattle.image.proofs.SameLaws.{plan_same}
use Rattle.words.proofs.ChoiceLaws.{eq_or_ne}
use Rattle.layout.specs.Kind.{value_kind, table_kind}
use Rattle.write_parts.specs.Numbered.{first_slot, slot_count, slot_kind, slot_value_word, slot_value_size, child_word, by_kind, slot_value, numbered_plan, numbered_bytes, numbered_image, NumberedFits, slot_cover}
use Rattle.write_parts.proofs.KindLaws.{kind_value, kind_container}
use Rattle.write_numbers.specs.Roster.{state_of}
use Rattle.write.specs.Write.{image_for}
use Rattle.write_slots.specs.NumberedAs.{NumberedAs}

-- ---- nested tables laid alike

-- a choice by kind depends on the table's part only where the kind is that of a table
kind_same : {A : Type 0} (kind : ℕ) (v x y w : A) → (kind ≡ table_kind → x ≡ y) → by_kind kind v x w ≡ by_kind kind v y w
kind_same kind v x y w same = ⊎_elim (λ e. rw (same e)) (λ n. by n (eq_or_ne kind value_kind)) (eq_or_ne kind table_kind)
  where
    by : (kind ≡ table_kind → ⊥) → (kind ≡ value_kind) ⊎ (kind ≡ value_kind → ⊥) → by_kind kind v x w ≡ by_kind kind v y w
    by n (inl e) = kind_value kind v x w e ∙ sym (kind_value kind v y w e)
    by n (inr m) = kind_container kind v x w m n ∙ sym (kind_container kind v y w m n)

module _ (numbered arena : List ℕ) (fits : NumberedFits numbered arena) (f g : ℕ → ℕ → List ℕ)
    (same : (u at : ℕ) → u < most_tables → f u at ≡ g u at) where
  value_same : (s at : ℕ) → s < most_items → slot_value f numbered arena s at ≡ slot_value g numbered arena s at
  unfolding slot_value
  value_same s at l =
      kind_same (slot_kind numbered s) (part arena (slot_value_word numbered s) (slot_value_size numbered s)) (f (slot_value_word numbered s) at) (g (slot_value_word numbered s) at)
      (words_of (λ j. child_word numbered (slot_value_word numbered s + j)) (slot_value_size numbered s)) (λ e. same (slot_value_word numbered s) at ((fits.slots s l).guest e))

  inner_same : (filter t : ℕ) → t < most_tables → SamePlan (numbered_plan f numbered arena filter t) (numbered_plan g numbered arena filter t)
  unfolding numbered_plan slot_cover
  inner_same filter t l = record {
    count = refl;
    filter = refl;
    first = λ b h. refl;
    hash = λ k h. refl;
    parent = λ k h. refl;
    fragment = λ k h. refl;
    kind = λ k h. refl;
    align = λ k h. refl;
    value = λ k at h. value_same (first_slot numbered t + k) at (omega (arith, fits.tables t l));
    covers = λ k h. refl;
  }

-- ---- the theorem

module _ {rule : ℕ → ℕ} (filter : ℕ) (ws ar numbered : List ℕ) (s : NumberedAs rule ws ar numbered) where
  pub numbered_bytes_lem : (d t at : ℕ) → t < most_tables → numbered_bytes filter numbered ar d t at ≡ table_bytes rule filter (state_of ws ar) d t at
  unfolding numbered_bytes table_bytes
  numbered_bytes_lem zero t at l = refl
  numbered_bytes_lem (suc d) t at l =
      let f : ℕ → ℕ → List ℕ = λ u start. numbered_bytes filter numbered ar d u start in
      let g : ℕ → ℕ → List ℕ = λ u start. table_bytes rule filter (state_of ws ar) d u start in
      plan_same (numbered_plan f numbered ar filter t) (numbered_plan g numbered ar filter t) (inner_same numbered ar s.fits f g (λ u start h. numbered_bytes_lem d u start h) filter t l) at
      ∙ plan_same (numbered_plan g numbered ar filter t) (plan_of rule filter g (state_of ws ar) (state_of ws ar t)) (s.plans filter g t l) at

  pub numbered_image_lem : (t : ℕ) → t < most_tables → numbered_image filter numbered ar t ≡ image_for rule filter ws ar t
  unfolding numbered_image image_for image_of
  numbered_image_lem t l = ap (λ (bytes : List ℕ). zeros header_size ++ bytes) (numbered_bytes_lem deepest t header_size l)

  pub numbered_count : (t : ℕ) → t < most_tables → slot_count numbered t ≡ length (state_of ws ar t).members
  unfolding numbered_plan plan_of
  numbered_count t l = (s.plans filter (λ u at. zeros 0) t l).count
