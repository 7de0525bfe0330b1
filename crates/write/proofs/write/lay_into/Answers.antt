-- `write::write::lay_into` meets its contract: what is laid into the front is laid into the whole.
use native.Mathlib.Omega.{arith}
use Rattle.write.proofs.AnswerLaws.{laid_front}
use Rattle.write.proofs.write.lay_into.Goals as goal

pub returns : goal.returns
returns c =
    let a = c.args in
    laid_front a.size a.image.now _ _ (omega (arith, c.requires.table_lt_most_tables.2)) c.lay_image.ensures
