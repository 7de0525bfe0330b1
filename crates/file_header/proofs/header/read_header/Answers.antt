-- `file_header::header::read_header` meets its contract: the lengths, then the signature as one number.
use borrow.Author.Tests.{le-ltb}
use Rattle.words.specs.Choice.{pick}
use Rattle.file_header.specs.Header.{read_header}
use Rattle.file_header.proofs.HeaderLaws.{little_spells, big_spells, signed, not-signed}
use Rattle.file_header.proofs.header.read_header.Goals as goal

pub returns-then-found-eq-LITTLE : goal.returns-then-found-eq-LITTLE
unfolding read_header pick
returns-then-found-eq-LITTLE c =
    simp (le-ltb _ _ c.if-file-gt-LONGEST_FILE.false, le-ltb _ _ c.if-file-lt-HEADER_SIZE.false, signed _ _ c.long_at-found.ensures little_spells c.if-found-eq-LITTLE.true)
    c.versioned_header.ensures

pub returns-then-found-eq-BIG : goal.returns-then-found-eq-BIG
unfolding read_header pick
returns-then-found-eq-BIG c =
    simp (le-ltb _ _ c.if-file-gt-LONGEST_FILE.false, le-ltb _ _ c.if-file-lt-HEADER_SIZE.false, not-signed _ _ c.long_at-found.ensures little_spells c.if-found-eq-LITTLE.false, signed _ _ c.long_at-found.ensures big_spells c.if-found-eq-BIG.true)
    c.versioned_header-then-found-eq-BIG.ensures

pub returns : goal.returns
unfolding read_header pick
returns c =
    simp (le-ltb _ _ c.if-file-gt-LONGEST_FILE.false, le-ltb _ _ c.if-file-lt-HEADER_SIZE.false, not-signed _ _ c.long_at-found.ensures little_spells c.if-found-eq-LITTLE.false, not-signed _ _ c.long_at-found.ensures big_spells c.if-found-eq-BIG.false)
