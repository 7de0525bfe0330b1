-- `words::align::align_offset` meets its contract: the code is the definition, with the size at hand for the alignment.
use mathlib.Core.Path.{ap}
use Prim.Native.Nat.{◌%◌, ◌-◌, ◌<◌}
use native.Mathlib.Omega.{arith}
use native.Mathlib.Nat.{mod-lt}
use Rattle.words.specs.Align.{aligned}
use Rattle.words.proofs.AlignLaws.{alignment_range}
use Rattle.words.proofs.align.align_offset.Goals as goal

pub nonzero_rem-result : goal.nonzero_rem-result
nonzero_rem-result c = omega (arith, alignment_range c.args.alignment, c.bytes_of-size.ensures)

pub overflow_sub-result : goal.overflow_sub-result
overflow_sub-result c =
    let some : 0 < c.bytes_of-size.result = omega (arith, alignment_range c.args.alignment, c.bytes_of-size.ensures) in
    omega (arith, mod-lt c.args.offset some)

pub nonzero_rem-result-2 : goal.nonzero_rem-result-2
nonzero_rem-result-2 c = omega (arith, alignment_range c.args.alignment, c.bytes_of-size.ensures)

pub overflow_add-result : goal.overflow_add-result
overflow_add-result c =
    let some : 0 < c.bytes_of-size.result = omega (arith, alignment_range c.args.alignment, c.bytes_of-size.ensures) in
    omega (arith, alignment_range c.args.alignment, c.bytes_of-size.ensures, mod-lt (c.bytes_of-size.result - c.args.offset % c.bytes_of-size.result) some, c.requires)

pub returns : goal.returns
unfolding aligned
returns c = ap (aligned c.args.offset) c.bytes_of-size.ensures
