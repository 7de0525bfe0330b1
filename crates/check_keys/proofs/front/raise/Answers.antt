-- `check_keys::front::raise` meets its contract: the parent has the same front.
use Rattle.std.specs.Prelude.{Ok}
use mathlib.Core.Path.{sym, ap, ◌∙◌}
use Rattle.layout.specs.declared.item.Item.{Item}
use Rattle.read_chain.specs.Chain.{parent_of}
use Rattle.check_keys.proofs.FrontLaws.{raise_up}
use Rattle.check_keys.proofs.front.raise.Goals as goal

pub returns-in-Ok-Some : goal.returns-in-Ok-Some
returns-in-Ok-Some c =
    raise_up _ _ c.requires.1 c.requires.2 (sym (c.parent_of.ensures ∙ ap (λ (i : Item). parent_of c.args.table.count i.parent) c.item_at-item.ensures) ∙ c.in-Ok-Some.is ∙ ap Ok c.in-Ok-Some.field-0-is) c.front_at.ensures
