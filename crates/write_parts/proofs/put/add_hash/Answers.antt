-- `write_parts::put::add_hash` meets its contract.
use Rattle.write_parts.proofs.FilterLaws.{hash-put}
use Rattle.write_parts.proofs.put.add_hash.Goals as goal

pub returns : goal.returns
returns c =
    let args = c.args in
    hash-put args.image.now args.at args.hash c.word_at.ensures c.put_bit-first.ensures
    c.put_bit.ensures c.put_word.ensures
