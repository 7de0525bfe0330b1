-- `check_hash::tally::prepend_strides` meets its contract: the invariant says that the strides from the back that were passed are in the tally.
use Rattle.std.proofs.Common.{◌≡◌, ℕ, ◌-◌, ◌*◌, ◌%◌, List, length, drop, sym, ap, ◌∙◌, arith}
use Rattle.std.proofs.lemmas.List.{length_push, length-reverse}
use Rattle.std.proofs.lemmas.Iterator.Adapters.{YieldsList-from_rev_slice}
use Rattle.std.proofs.lemmas.Iterator.Consumers.{YieldsList-turn, YieldsList-end}
use Rattle.key_hash.specs.Hash.{rule_of}
use Rattle.check_hash.specs.Tally.{prepend}
use Rattle.check_hash.proofs.TallyLaws.{prepend_stride, prepend_start, prepend_front}
use Rattle.check_hash.proofs.tally.prepend_strides.Goals as goal

pub loop-a-init : goal.loop-a-init
loop-a-init c = prepend_start _ c.args.bytes.now c.args.tally

pub loop-a-preserved : goal.loop-a-preserved
loop-a-preserved c =
    let bytes = c.args.bytes.now in
    let strides = c.as_rchunks.result.1.now in
    let turn = YieldsList-turn (YieldsList-from_rev_slice strides cc) c.loop-a.yielded _ c.loop-a.yielded_by _ _ c.in-Some.field-0 c.in-Some.is c.next.ensures.steps in
    prepend_stride (rule_of c.args.form) bytes c.as_rchunks.ensures.back c.as_rchunks.ensures.back_len _ turn c.args.tally
    c.byte_counts-a.ensures.0 c.byte_counts-b.ensures.0 c.byte_counts-c.ensures.0 c.byte_counts-d.ensures.0 c.loop-a.invariant c.prepend_four-state.ensures
    ∙ ap (λ (n : ℕ). prepend (rule_of c.args.form) (drop (length bytes - 4 * n) bytes) c.args.tally) (sym (length_push c.loop-a.yielded c.in-Some.field-0))

pub returns : goal.returns
returns c =
    let bytes = c.args.bytes.now in
    let strides = c.as_rchunks.result.1.now in
    let all = YieldsList-end (YieldsList-from_rev_slice strides cc) c.loop-a.yielded _ c.loop-a.yielded_by _ _ c.in-None.is c.next.ensures.steps in
    let left : length bytes - 4 * length c.loop-a.yielded ≡ length bytes % 4 = omega (arith, all.1, length-reverse strides, c.as_rchunks.ensures.back_len) in
    prepend_front (rule_of c.args.form) bytes (length bytes % 4) c.args.tally (rw left at c.loop-a.invariant) (c.prepend_each.ensures ∙ ap (λ (l : List ℕ). prepend (rule_of c.args.form) l c.loop-a.state) c.as_rchunks.ensures.front)
