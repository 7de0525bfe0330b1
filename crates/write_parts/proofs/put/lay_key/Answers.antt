-- `write_parts::put::lay_key` meets its contract.
use Rattle.write_parts.proofs.PutLaws.{put_key_lem}
use Rattle.write_parts.proofs.put.lay_key.Goals as goal

pub returns : goal.returns
returns c =
    let args = c.args in
    put_key_lem args.numbered.now args.arena.now args.image.now args.slot args.at args.start c.slot_word-from.ensures c.slot_word-size.ensures c.requires.slot_in_bounds
    c.lay_part-end.ensures c.fill.ensures
