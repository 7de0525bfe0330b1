-- `text::ascii::is_ascii_long` meets its contract. The invariant: the text is ASCII over i strides.
use mathlib.Core.Path.{◌≡◌}
use mathlib.Core.Bool.{true}
use Prim.Native.Nat.{◌*◌}
use lib.ListN.{take}
use Rattle.text.specs.Ascii.{is_ascii}
use Rattle.text.proofs.ascii.is_ascii_long.Given as goal

abbrev pub invariant-loop-i : goal.invariant-loop-i
invariant-loop-i l = is_ascii (take (8 * l.i) l.s) ≡ true
