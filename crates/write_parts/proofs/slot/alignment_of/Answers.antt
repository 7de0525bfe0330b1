-- `write_parts::slot::alignment_of` meets its contract.
use mathlib.Core.Path.{sym}
use Rattle.write_parts.proofs.KindLaws.{kind_value, kind_rest}
use Rattle.write_parts.proofs.slot.alignment_of.Goals as goal

pub returns-then-kind-eq-VALUE_KIND : goal.returns-then-kind-eq-VALUE_KIND
returns-then-kind-eq-VALUE_KIND c = sym (kind_value _ _ _ _ c.if-kind-eq-VALUE_KIND.true)

pub returns : goal.returns
returns c = sym (kind_rest _ _ _ c.if-kind-eq-VALUE_KIND.false)
