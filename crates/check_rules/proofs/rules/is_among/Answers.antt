-- `check_rules::rules::is_among` meets its contract: it asks whether any child word is the index.
use mathlib.Core.Path.{refl}
use native.Mathlib.Omega.{arith}
use lib.Dec.{eqb}
use Rattle.std.proofs.Common.{rules, tests}
use Rattle.std.proofs.lemmas.Iterator.{YieldsList-from_range}
use Rattle.std.proofs.lemmas.Iterator.Search.{any_from_yields_List}
use Rattle.read_listing.specs.Children.{child_at}
use Rattle.check_rules.proofs.RuleLaws.{any_child}
use Rattle.check_rules.proofs.rules.is_among.Goals as goal

pub returns : goal.returns
unfolding child_at
returns c =
    let a = c.args in
    any_child a.file.now a.from a.n a.index (any_from_yields_List (λ k. eqb (child_at a.file.now a.from k) a.index) _ _ c.any.result c.any.ensures.ran (YieldsList-from_range {s = record { start = 0; end = a.n }} 0 a.n a.n refl (omega arith)) (λ x b q k. search (rules, tests)))
