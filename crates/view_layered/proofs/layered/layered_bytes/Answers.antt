-- `view_layered::layered::layered_bytes` meets its contract: a value through two views is the value in the two files.
use Rattle.view_layered.proofs.LayeredLaws.{layered_through}
use Rattle.view_layered.proofs.layered.layered_bytes.Goals as goal

pub returns : goal.returns
returns c =
    layered_through c.args.owner c.args.ostart c.args.oend c.args.omanner c.args.district c.args.dstart c.args.dend c.args.dmanner c.args.key.now _ _ _
    c.open_view-own.ensures c.open_view-under.ensures c.layered-layered.ensures
