-- `view_through::through::nested_bytes` meets its contract: a value through the view of a nested table is the value at that table's pointer.
use Rattle.view.proofs.ThroughLaws.{nested_through}
use Rattle.view_through.proofs.through.nested_bytes.Goals as goal

pub returns : goal.returns
returns c = nested_through c.args.file c.args.start c.args.end c.args.manner c.args.table.now c.args.key.now _ _ _ c.open_view-opened.ensures c.nested-nested.ensures c.value-value.ensures
