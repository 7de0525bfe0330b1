-- `check_hash::tally::prepend_each` meets its contract: the invariant says that the bytes from the back that were passed are in the tally.
use Rattle.std.proofs.Common.{ℕ, ◌-◌, length, drop, sym, ap, ◌∙◌}
use Rattle.std.proofs.lemmas.List.{length_push}
use Rattle.std.proofs.lemmas.Iterator.Adapters.{YieldsList-from_rev_slice}
use Rattle.std.proofs.lemmas.Iterator.Consumers.{YieldsList-turn}
use Rattle.key_hash.specs.Hash.{rule_of}
use Rattle.check_hash.specs.Tally.{before, prepend}
use Rattle.check_hash.proofs.TallyLaws.{prepend_turn, prepend_start}
use Rattle.check_hash.proofs.tally.prepend_each.Goals as goal

pub loop-byte-init : goal.loop-byte-init
loop-byte-init c = prepend_start _ c.args.bytes.now c.args.tally

pub loop-byte-preserved : goal.loop-byte-preserved
loop-byte-preserved c =
    let bytes = c.args.bytes.now in
    let turn = YieldsList-turn (YieldsList-from_rev_slice bytes cc) c.loop-byte.yielded _ c.loop-byte.yielded_by _ _ c.in-Some.field-0 c.in-Some.is c.next.ensures.steps in
    c.prepend_byte-state.ensures
    ∙ ap (before (rule_of c.args.form) c.in-Some.field-0.now) c.loop-byte.invariant
    ∙ prepend_turn (rule_of c.args.form) bytes _ c.args.tally turn
    ∙ ap (λ (n : ℕ). prepend (rule_of c.args.form) (drop (length bytes - n) bytes) c.args.tally) (sym (length_push c.loop-byte.yielded c.in-Some.field-0))
