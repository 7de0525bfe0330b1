-- `text::utf8::is_utf8` meets its contract: ASCII, or good to the end.
use mathlib.Core.Path.{sym, ap, ◌∙◌}
use Prim.Native.Nat.{ℕ}
use lib.ListN.{length}
use lib.Dec.{eqb}
use Rattle.text.specs.Utf8.{is_utf8}
use Rattle.text.proofs.AsciiLaws.{ascii_utf8}
use Rattle.text.proofs.utf8.is_utf8.Goals as goal

pub returns-then-is_ascii : goal.returns-then-is_ascii
returns-then-is_ascii c = sym (ascii_utf8 c.args.s.now (sym c.is_ascii.ensures ∙ c.if-is_ascii.true))

pub returns : goal.returns
unfolding is_utf8
returns c = ap (λ (n : ℕ). eqb n (length c.args.s.now)) c.scan.ensures
