-- `key_order::compare::same_bytes` meets its contract, by that of the function for its length.
use mathlib.Core.Path.{sym}
use Rattle.key_order.proofs.CompareLaws.{same_lengths}
use Rattle.key_order.proofs.compare.same_bytes.Goals as goal

pub returns-then-a-b : goal.returns-then-a-b
returns-then-a-b c = sym (same_lengths _ _ c.if-a-b.true)
