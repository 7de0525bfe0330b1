-- `file_header::header::lay_root` meets its contract: four words behind one another are one store.
use Rattle.file_header.proofs.HeaderLaws.{put_root}
use Rattle.file_header.proofs.header.lay_root.Goals as goal

pub returns : goal.returns
returns c =
    let args = c.args in
    put_root args.target.now args.start args.end c.put_word.ensures c.put_word-2.ensures c.put_word-3.ensures c.put_word-4.ensures
