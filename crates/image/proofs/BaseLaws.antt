-- With 0 filter words every table is laid as document 01 has it.
use Prim.Native.Nat.{ℕ, zero, suc}
use mathlib.Core.Path.{◌≡◌, refl, ap, ◌∙◌}
use mathlib.Core.List.{List, ◌++◌}
use Rattle.words.specs.Store.{zeros}
use Rattle.layout.specs.Limits.{deepest}
use Rattle.layout.specs.Sizes.{header_size, chunk_size}
use Rattle.model.specs.Table.{Content, Rows, State}
use Rattle.image.specs.Index.{item_of}
use Rattle.image.specs.Plan.{Plan, words_of, plan_bytes}
use Rattle.image.specs.Image.{value_of, covers_of, plan_of, table_bytes, image_of}
use Rattle.image.specs.Fits.{SamePlan}
use Rattle.image.specs.Base as base
use Rattle.image.specs.Base.{NoWordsIsTheBase}
use Rattle.image.proofs.SameLaws.{plan_same}

-- a plan without filter words
plan_bare : (p : Plan) (at : ℕ) → p.filter ≡ 0 → plan_bytes p at ≡ base.plan_bytes p at
unfolding plan_bytes chunk_size words_of base.plan_bytes base.chunk_size
plan_bare p at e = rw e

module _ (rule : ℕ → ℕ) (f g : ℕ → ℕ → List ℕ) (same : (u at : ℕ) → f u at ≡ g u at) (state : State) (table : Rows) where
  value_bare : (i : ℕ) (c : Content) (at : ℕ) → value_of rule 0 f state table i c at ≡ base.value_of rule g state table i c at
  unfolding value_of base.value_of
  value_bare i (Content.bytes value) at = refl
  value_bare i (Content.nested u) at = same u at
  value_bare i Content.container at = refl

  covers_bare : (i : ℕ) (c : Content) → covers_of rule 0 f state table i c ≡ base.covers_of rule g state table i c
  unfolding covers_of chunk_size base.covers_of base.chunk_size
  covers_bare i (Content.bytes value) = refl
  covers_bare i (Content.nested u) = refl
  covers_bare i Content.container = refl

  plans_bare : SamePlan (plan_of rule 0 f state table) (base.plan_of rule g state table)
  unfolding plan_of base.plan_of
  plans_bare = record {
    count = refl;
    filter = refl;
    first = λ b l. refl;
    hash = λ k l. refl;
    parent = λ k l. refl;
    fragment = λ k l. refl;
    kind = λ k l. refl;
    align = λ k l. refl;
    value = λ k at l. value_bare (item_of rule table k) (table.content (item_of rule table k)) at;
    covers = λ k l. covers_bare (item_of rule table k) (table.content (item_of rule table k));
  }

no_words : (rule : ℕ → ℕ) (inner : ℕ → ℕ → List ℕ) (state : State) (table : Rows) → (base.plan_of rule inner state table).filter ≡ 0
unfolding base.plan_of
no_words rule inner state table = refl

tables_bare : (rule : ℕ → ℕ) (state : State) (d t at : ℕ) → table_bytes rule 0 state d t at ≡ base.table_bytes rule state d t at
unfolding table_bytes base.table_bytes
tables_bare rule state zero t at = refl
tables_bare rule state (suc d) t at =
    let f : ℕ → ℕ → List ℕ = λ u start. table_bytes rule 0 state d u start in
    let g : ℕ → ℕ → List ℕ = λ u start. base.table_bytes rule state d u start in
    plan_same (plan_of rule 0 f state (state t)) (base.plan_of rule g state (state t)) (plans_bare rule f g (λ u start. tables_bare rule state d u start) state (state t)) at
    ∙ plan_bare (base.plan_of rule g state (state t)) at (no_words rule g state (state t))

pub image_bare : NoWordsIsTheBase
unfolding image_of base.image_of
image_bare rule state root = ap (λ (bytes : List ℕ). zeros header_size ++ bytes) (tables_bare rule state deepest root header_size)
