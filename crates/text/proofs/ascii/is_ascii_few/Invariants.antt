-- `text::ascii::is_ascii_few` meets its contract. The invariant: the text is ASCII just where what is left of it is.
use mathlib.Core.Path.{◌≡◌}
use lib.ListN.{drop}
use Rattle.text.specs.Ascii.{is_ascii}
use Rattle.text.proofs.ascii.is_ascii_few.Given as goal

abbrev pub invariant-loop-b : goal.invariant-loop-b
invariant-loop-b l = is_ascii l.s ≡ is_ascii (drop l.b-index l.s)
