-- `file_header::header::lay_signature` meets its contract: in each order two words are the eight bytes.
use mathlib.Core.Path.{ap, ◌∙◌}
use Rattle.file_header.specs.Header.{signature}
use Rattle.file_header.proofs.HeaderLaws.{put-signature, little_words, big_words}
use Rattle.file_header.proofs.header.lay_signature.Goals as goal

pub returns-in-Little : goal.returns-in-Little
returns-in-Little c =
    let args = c.args in
    put-signature _ 0x72615647 0x746E6169 (ap signature c.in-Little.is ∙ little_words) args.target.now c.put_word.ensures c.put_word-in-Little.ensures

pub returns-in-Big : goal.returns-in-Big
returns-in-Big c =
    let args = c.args in
    put-signature _ 0x47566172 0x69616E74 (ap signature c.in-Big.is ∙ big_words) args.target.now c.put_word-in-Big.ensures c.put_word-in-Big-2.ensures
