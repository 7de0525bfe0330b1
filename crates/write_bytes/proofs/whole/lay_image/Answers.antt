-- `write_bytes::whole::lay_image` meets its contract.
use native.Mathlib.Omega.{arith}
use Rattle.write_bytes.proofs.ImageLaws.{length-image, image_laid}
use Rattle.write_bytes.proofs.whole.lay_image.Goals as goal

pub fill-requires : goal.fill-requires
fill-requires c =
    omega (arith, length-image c.args.filter c.args.numbered.now c.args.arena.now c.args.table, c.requires.table_in_bounds)

pub lay_table-requires-clause-at_in_bounds : goal.lay_table-requires-clause-at_in_bounds
lay_table-requires-clause-at_in_bounds c =
    let long = length-image c.args.filter c.args.numbered.now c.args.arena.now c.args.table in
    (omega (arith, long, c.requires.table_in_bounds, c.fill.auto), omega (arith, c.requires.table_in_bounds, c.fill.auto))

pub returns : goal.returns
returns c =
    let args = c.args in
    image_laid args.filter args.numbered.now args.arena.now args.table args.image.now c.fill.ensures c.lay_table.ensures
