-- Every memory that keeps the rules of a write means only tables that may be written. Nothing is asked of its history.
use mathlib.Core.Path.{◌≡◌, refl, sym, ◌∙◌}
use mathlib.Core.Bool.{Bool, true, false}
use mathlib.Core.List.{List}
use Prim.Native.Nat.{ℕ, zero, suc, ◌≤◌}
use native.Mathlib.Omega.{arith}
use borrow.Author.Tests.{eqb-true}
use lib.Dec.{eqb, ltb}
use Rattle.words.specs.Choice.{pick}
use Rattle.words.specs.Store.{part}
use Rattle.words.proofs.ChoiceLaws.{both}
use Rattle.model.specs.Table.{Content}
use Rattle.layout.specs.Kind.{value_kind, table_kind}
use Rattle.build_memory.specs.Memory.{table_total, item_kind, item_guest, value_start, value_size}
use Rattle.build_memory.specs.Meaning.{content_of}
use Rattle.build_rules.specs.Valid.{height_limit, fully_valid}
use Rattle.build_rules.proofs.ValidLaws.{limit_loose, limit_placed}
use Rattle.build_rules.proofs.ValidFacts.{whole_facts}
use Rattle.layout.specs.Limits.{deepest}
use Rattle.image.specs.WellFormed.{Writable}
use Rattle.write_numbers.specs.Roster.{state_of}
use Rattle.build_tables.specs.Table.{free_standing}
use Rattle.write_numbers.proofs.StateLaws.{state_below, state_table}
use Rattle.write_slots.proofs.StateLaws.{content_is}
use Rattle.demands.specs.Success.{FreeStandingWritable}
use Rattle.demands.proofs.WellFormed.{table_formed}

-- what holds a table is an 'H', and the table is its guest
pub holds_guest : (ws ar : List ℕ) (i u : ℕ) → content_of ws ar i ≡ Content.nested u → (item_kind ws i ≡ table_kind) × (item_guest ws i ≡ u)
unfolding content_of pick
holds_guest ws ar i u is = by_kind (eqb (item_kind ws i) value_kind) (eqb (item_kind ws i) table_kind) (part ar (value_start ws i) (value_size ws i)) refl is
  where
    by_kind : (v h : Bool) (value : List ℕ) → eqb (item_kind ws i) table_kind ≡ h
        → pick v (Content.bytes value) (pick h (Content.nested (item_guest ws i)) Content.container) ≡ Content.nested u → (item_kind ws i ≡ table_kind) × (item_guest ws i ≡ u)
    by_kind true h value e f = absurd (let z : ◌≡◌ {A = ℕ} 0 1 = cc in omega arith)
    by_kind false true value e f = (eqb-true _ _ e, cc)
    by_kind false false value e f = absurd (let z : ◌≡◌ {A = ℕ} 0 1 = cc in omega arith)

module _ (ws ar : List ℕ) (whole : fully_valid ws ar ≡ true) where
  -- a table that may hold tables lower than d only, may be written d deep
  pub limit_writable : (d t : ℕ) → 1 ≤ height_limit ws t → height_limit ws t ≤ d → Writable (state_of ws ar) d t
  unfolding Writable
  limit_writable zero t some low = absurd (omega arith)
  limit_writable (suc d) t some low = (
    table_formed ws ar whole t,
    λ i u has is.
        let l = state_below ws ar t i has in
        let (kind, guest) = holds_guest ws ar i u (sym (content_is ws ar t i l) ∙ is) in
        let g = rw (guest, state_table ws ar t i has) at ((whole_facts ws ar whole).guest i l kind) in
        let limit = limit_placed ws u g.placed in
        limit_writable d u (omega (arith, g.some)) (omega (arith, g.lower)),
  )

-- a table that is known and not placed: what a write takes
pub free_standing_writable : FreeStandingWritable
unfolding free_standing
free_standing_writable ws ar whole t root =
    let limit = limit_loose ws t (eqb-true _ _ (both (ltb t (table_total ws)) _ root).1) in
    limit_writable ws ar whole deepest t (omega arith) (omega arith)
