-- `read::layered::lookup_layered` meets its contract: what opening refuses is no 12.
use mathlib.Core.Path.{sym, ◌∙◌}
use Rattle.read.specs.Layered.{layered_value}
use Rattle.read.proofs.LayeredLaws.{own_shut}
use Rattle.read.proofs.layered.lookup_layered.Goals as goal

pub returns-in-Err : goal.returns-in-Err
unfolding layered_value
returns-in-Err c = own_shut _ _ _ _ _ _ (sym c.open_table.ensures ∙ c.in-Err.is)
