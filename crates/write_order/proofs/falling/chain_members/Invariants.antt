-- `write_order::falling::chain_members` meets its contract. The invariant: the members before place k are chained, and all but the links is as it was.
use mathlib.Core.List.{List}
use Prim.Native.Nat.{ℕ}
use Rattle.key_hash.specs.declared.hash.Form.{Form}
use Rattle.write_order.specs.Chain.{ButLinks, links_of, ChainedBy}
use Rattle.write_order.proofs.falling.chain_members.Given as goal

pub record Chaining (form : Form) (ws₀ ar members ws heads : List ℕ) (k : ℕ) : Type 0 where
  pub but : ButLinks ws₀ ws
  pub chained : ChainedBy form ws₀ ar members k heads (links_of ws)

abbrev pub invariant-loop-i : goal.invariant-loop-i
invariant-loop-i l =
    Chaining l.form l.initial.words l.arena l.members l.words l.heads l.i-index
