-- `file_header::header::lay_header` meets its contract: the lengths, then the signature and what stands behind it are one store.
use mathlib.Core.Path.{sym, ◌∙◌}
use Rattle.file_header.proofs.HeaderLaws.{put_header, laid_1, laid_16, laid_there}
use Rattle.file_header.proofs.header.lay_header.Goals as goal

pub returns-then-target-gt-LONGEST_FILE-clause-wrote : goal.returns-then-target-gt-LONGEST_FILE-clause-wrote
returns-then-target-gt-LONGEST_FILE-clause-wrote c = laid_1 _ _ _ _ c.if-target-gt-LONGEST_FILE.true

pub returns-then-target-lt-HEADER_SIZE-clause-wrote : goal.returns-then-target-lt-HEADER_SIZE-clause-wrote
returns-then-target-lt-HEADER_SIZE-clause-wrote c = laid_16 _ _ _ _ c.if-target-gt-LONGEST_FILE.false c.if-target-lt-HEADER_SIZE.true

pub returns-clause-wrote : goal.returns-clause-wrote
returns-clause-wrote c =
    let args = c.args in
    put_header args.target.now args.order args.start args.end c.lay_signature.ensures c.lay_root.ensures
    ∙ sym (laid_there _ _ _ _ c.if-target-gt-LONGEST_FILE.false c.if-target-lt-HEADER_SIZE.false)
