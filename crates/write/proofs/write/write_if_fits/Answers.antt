-- `write::write::write_if_fits` meets its contract, answer by answer.
use native.Mathlib.Omega.{arith}
use Rattle.write_bytes.proofs.MeasureLaws.{end_is, long_is}
use Rattle.write.proofs.AnswerLaws.{numbered_long, numbered_wide, numbered_laid}
use Rattle.write.proofs.write.write_if_fits.Goals as goal

pub returns-in_default : goal.returns-in_default
returns-in_default c =
    let a = c.args in
    let g = numbered_long a.filter a.numbered.now a.arena.now a.image.now a.table (long_is _ c.measure.ensures c.in_default.is) in
    record {
      value = g.answers;
      image_after = g.lays;
    }

pub returns-then-image-size : goal.returns-then-image-size
returns-then-image-size c =
    let a = c.args in
    let e = end_is _ c.measure.ensures c.in-Some.is in
    let g = numbered_wide a.filter a.numbered.now a.arena.now a.image.now a.table (omega (arith, e.0, c.if-image-size.true)) in
    record {
      value = g.answers;
      image_after = g.lays;
    }

pub lay_into-requires-clause-table_lt_most_tables : goal.lay_into-requires-clause-table_lt_most_tables
lay_into-requires-clause-table_lt_most_tables c =
    (c.requires.table_lt_most_tables.0, c.requires.table_lt_most_tables.1, (end_is _ c.measure.ensures c.in-Some.is).0)

pub lay_into-requires-clause-size_in_bounds : goal.lay_into-requires-clause-size_in_bounds
lay_into-requires-clause-size_in_bounds c = (c.if-image-size.false, (end_is _ c.measure.ensures c.in-Some.is).1)

pub overflow_cast-result-3 : goal.overflow_cast-result-3
overflow_cast-result-3 c = let e = end_is _ c.measure.ensures c.in-Some.is in omega (arith, e.1)

pub returns : goal.returns
returns c =
    let a = c.args in
    let e = end_is _ c.measure.ensures c.in-Some.is in
    let g = numbered_laid a.filter a.numbered.now a.arena.now a.image.now a.table _ _ _ e.0 e.1 (omega (arith, c.if-image-size.false)) c.slot_count.ensures c.lay_into.ensures in
    record {
      value = g.answers;
      image_after = g.lays;
    }
