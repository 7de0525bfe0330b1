-- `view_through::through::value_bytes` meets its contract: a value through a view is the value in the file.
use Rattle.view.proofs.ThroughLaws.{value_through}
use Rattle.view_through.proofs.through.value_bytes.Goals as goal

pub returns : goal.returns
returns c = value_through c.args.file c.args.start c.args.end c.args.manner c.args.key.now _ _ c.open_view-opened.ensures c.value-value.ensures
