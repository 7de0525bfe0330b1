-- `write_numbers::collect::has_items` meets its contract: it asks whether any item is in the table.
use mathlib.Core.Path.{refl}
use native.Mathlib.Omega.{arith}
use Rattle.std.proofs.Common.{rules, tests}
use Rattle.std.proofs.lemmas.Iterator.{YieldsList-from_range}
use Rattle.std.proofs.lemmas.Iterator.Search.{any_from_yields_List}
use Rattle.build_memory.specs.Memory.{item_total}
use Rattle.write_numbers.specs.Fill.{in_table}
use Rattle.write_numbers.proofs.BareLaws.{any_item, past_none}
use Rattle.write_numbers.proofs.collect.has_items.Goals as goal

pub returns-then-words-t : goal.returns-then-words-t
returns-then-words-t c = past_none _ _ c.requires c.if-words-t.true

pub returns : goal.returns
returns c =
    let most = item_total c.args.words.now in
    any_item _ _ (any_from_yields_List (in_table c.args.words.now c.args.t) _ _ c.any.result c.any.ensures.ran (YieldsList-from_range {s = record { start = 0; end = most }} 0 most most refl (omega arith)) (λ x b q k. search (rules, tests)))
