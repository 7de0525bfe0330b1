-- `read_chain::chain::match_fragment` meets its contract: a key that ends in the fragment is as long.
use mathlib.Core.Path.{sym, ◌∙◌}
use Rattle.key_order.proofs.CompareLaws.{ends_split}
use Rattle.read_chain.proofs.chain.match_fragment.Goals as goal

pub overflow_sub-result : goal.overflow_sub-result
overflow_sub-result c = (ends_split _ _ _ (sym c.ends_with.ensures ∙ c.if-not-ends_with.false)).0
