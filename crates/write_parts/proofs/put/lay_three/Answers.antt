-- `write_parts::put::lay_three` meets its contract.
use Rattle.write_parts.proofs.PutLaws.{put_three}
use Rattle.write_parts.proofs.put.lay_three.Goals as goal

pub returns : goal.returns
returns c =
    let args = c.args in
    put_three args.image.now args.to args.a args.b args.c c.put_word.ensures c.put_word-2.ensures c.put_word-3.ensures
