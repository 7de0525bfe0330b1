-- `check_rules::rules::key_rule` meets its contract: each return is a case of the definition.
use Rattle.std.specs.Prelude.{Some}
use mathlib.Core.Path.{◌≡◌, sym, ◌∙◌}
use Rattle.std.proofs.Common.{rules}
use Rattle.check_hash.proofs.KeyLaws.{joined_sized, joined_hashed}
use Rattle.check_rules.proofs.RuleLaws.{key_broken, key_here, key_elsewhere}
use Rattle.check_rules.proofs.rules.key_rule.Goals as goal

pub find_joined-requires : goal.find_joined-requires
find_joined-requires c =
    let own = sym c.joined_key.ensures ∙ c.in-Some.is in
    (record { inside = c.requires.0; below = c.requires.1; sized = joined_sized _ _ own }, joined_hashed _ _ own)

pub returns-in_default : goal.returns-in_default
returns-in_default c = key_broken _ _ _ _ (sym c.joined_key.ensures ∙ c.in_default.is)

pub returns-then-eq : goal.returns-then-eq
returns-then-eq c =
    let own = sym c.joined_key.ensures ∙ c.in-Some.is in
    let found : c.find_joined.result ≡ Some c.args.index = search rules in
    key_here _ _ _ _ own (sym c.find_joined.ensures ∙ found)

pub returns-else-eq : goal.returns-else-eq
returns-else-eq c =
    let own = sym c.joined_key.ensures ∙ c.in-Some.is in
    let other : c.find_joined.result ≡ Some c.args.index → ⊥ = search rules in
    key_elsewhere _ _ _ _ own (λ e. other (c.find_joined.ensures ∙ e))
