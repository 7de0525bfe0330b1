-- `write_slots::numbered::start_numbered` meets its contract.
use mathlib.Core.Path.{sym}
use native.Mathlib.Omega.{arith}
use lib.Seq.{length-take-le}
use Rattle.write_parts.specs.Numbered.{slots_from}
use Rattle.write_slots.proofs.TurnLaws.{start_made}
use Rattle.write_slots.proofs.numbered.start_numbered.Goals as goal

pub slice_bounds-put-end : goal.slice_bounds-put-end
slice_bounds-put-end c = sym (length-take-le slots_from c.args.roster.now (omega (arith, c.requires.0)))

pub put-requires : goal.put-requires
put-requires c =
    omega (arith, length-take-le slots_from c.args.roster.now (omega (arith, c.requires.0)), c.requires.1)

pub returns : goal.returns
returns c =
    start_made c.args.roster.now c.args.numbered.now _ c.requires.0 c.requires.1 c.requires.2 c.put.ensures
