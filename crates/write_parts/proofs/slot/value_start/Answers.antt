-- `write_parts::slot::value_start` meets its contract.
use mathlib.Core.Path.{ap, ◌∙◌}
use Prim.Native.Nat.{ℕ, ◌+◌}
use Rattle.words.specs.Align.{aligned}
use Rattle.write_parts.specs.Numbered.{by_kind}
use Rattle.write_parts.proofs.SlotLaws.{start_is}
use Rattle.write_parts.proofs.slot.value_start.Goals as goal

pub returns : goal.returns
returns c =
    let args = c.args in
    start_is args.numbered.now args.slot args.at c.slot_word-size.ensures
    (c.align_offset.ensures ∙ ap (aligned (args.at + c.slot_word-size.result)) (c.alignment_of-alignment.ensures ∙ ap (λ (k : ℕ). by_kind k 8 4 4) c.slot_word-kind.ensures))
