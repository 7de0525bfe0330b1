-- What is known of a table that is free-standing, and that a number above all tables has no count.
use Prim.Native.Nat.{ℕ, ◌≤◌, ◌<◌}
use mathlib.Core.Path.{◌≡◌}
use mathlib.Core.Bool.{true}
use mathlib.Core.List.{List}
use borrow.Author.Tests.{eqb-true, ltb-true, le-ltb}
use lib.Dec.{eqb, ltb}
use lib.ListN.{length}
use Rattle.std.specs.Prelude.{Err}
use Rattle.words.specs.Choice.{pick}
use Rattle.words.proofs.ChoiceLaws.{both}
use Rattle.layout.specs.declared.refusal.Refusal.TheVariants.{TableUnknown}
use Rattle.build_memory.specs.Memory.{table_total, table_placed, valid}
use Rattle.build_tables.specs.Table.{free_standing, item_count}

pub free_standing_facts : (ws : List ℕ) (t : ℕ) → free_standing ws t ≡ true → (t < table_total ws) × (table_placed ws t ≡ 0)
unfolding free_standing
free_standing_facts ws t e = let h = both (ltb t (table_total ws)) (eqb (table_placed ws t) 0) e in (ltb-true _ _ h.0, eqb-true _ _ h.1)

pub count_unknown : (ws ar : List ℕ) (t : ℕ) → valid ws (length ar) ≡ true → table_total ws ≤ t → Err TableUnknown ≡ item_count ws ar t
unfolding item_count pick
count_unknown ws ar t ok h = simp (ok, le-ltb _ _ h)
