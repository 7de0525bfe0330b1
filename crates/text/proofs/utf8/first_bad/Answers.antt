-- `text::utf8::first_bad` meets its contract: an ASCII text is good to its end.
use mathlib.Core.Path.{sym, ◌∙◌}
use Rattle.text.specs.Utf8.{first_bad}
use Rattle.text.proofs.AsciiLaws.{ascii_good}
use Rattle.text.proofs.utf8.first_bad.Goals as goal

pub returns-then-is_ascii : goal.returns-then-is_ascii
unfolding first_bad
returns-then-is_ascii c =
    let s = c.args.s.now in
    sym (ascii_good s (sym c.is_ascii.ensures ∙ c.if-is_ascii.true))

pub returns : goal.returns
returns c = c.scan.ensures
