-- `read_chain::chain::climb` meets its contract: the pointer is that of the definition, in the file's widths.
use Rattle.std.proofs.Common.{rules}
use mathlib.Core.Path.{sym, ◌∙◌, refl}
use Rattle.read_chain.proofs.ChainLaws.{climb_refused}
use Rattle.read_chain.proofs.chain.climb.Goals as goal

pub returns-in_err-open_pointer : goal.returns-in_err-open_pointer
returns-in_err-open_pointer c =
    rw (← climb_refused _ _ c.args.item refl refl (sym c.open_pointer.ensures ∙ c.in_err-open_pointer.was)) (search rules)
