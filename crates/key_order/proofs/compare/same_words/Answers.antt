-- `key_order::compare::same_words` meets its contract: two stretches cover the texts (`same_two`).
use Prim.Native.Nat.{◌-◌}
use native.Mathlib.Omega.{arith}
use lib.ListN.{length}
use Rattle.words.proofs.FieldLaws.{bytes_below}
use Rattle.key_order.proofs.CompareLaws.{same_two}
use Rattle.key_order.proofs.compare.same_words.Goals as goal

pub returns : goal.returns
returns c =
    let a = c.args.a.now in
    let b = c.args.b.now in
    rw (c.word_at.ensures, c.word_at-2.ensures, c.word_at-3.ensures, c.word_at-4.ensures)
    (same_two 4 a b (bytes_below a c.type_inv.a) (bytes_below b c.type_inv.b) (length a - 4) (omega arith) c.requires.0 (omega arith))
