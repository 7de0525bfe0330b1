-- `write_parts::put::lay_head` meets its contract.
use Rattle.write_parts.proofs.PutLaws.{put_head}
use Rattle.write_parts.proofs.put.lay_head.Goals as goal

pub returns : goal.returns
returns c =
    let args = c.args in
    put_head args.image.now args.at args.filter args.count c.put_word.ensures c.put_word-2.ensures
