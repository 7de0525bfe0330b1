-- `write_bytes::whole::measure` meets its contract.
use Rattle.write_bytes.proofs.ImageLaws.{length-image}
use Rattle.write_bytes.proofs.whole.measure.Goals as goal

pub returns : goal.returns
returns c =
    let args = c.args in
    rw (length-image args.filter args.numbered.now args.arena.now args.table) c.measure_table.ensures
