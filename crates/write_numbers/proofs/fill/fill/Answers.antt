-- `write_numbers::fill::fill` meets its contract. The invariant: the tables before t are filled, and the words are as they were.
use mathlib.Core.Path.{refl, ◌∙◌}
use native.Mathlib.Omega.{arith}
use Rattle.write_numbers.specs.Fill.{Fits, Sized}
use Rattle.write_numbers.proofs.OfTableLaws.{slot_start_lem, slot_few}
use Rattle.write_numbers.proofs.FillLaws.{put_few, put_next, filled_none, filled_more}
use Rattle.write_numbers.proofs.fill.fill.Goals as goal

pub loop-t-init : goal.loop-t-init
loop-t-init c =
    let a = c.args in
    record { first_is = slot_start_lem a.words.now; filled = filled_none a.words.now a.arena.now a.heads.now a.slots.now a.indices.now a.buckets.now; words_unchanged = refl }

pub put_table-n-requires-clause-judged : goal.put_table-n-requires-clause-judged
put_table-n-requires-clause-judged c =
    let fits : Fits c.args.words.now c.loop-t.t c.loop-t.first = omega (arith, slot_few c.args.words.now c.loop-t.t, c.loop-t.invariant.first_is, c.requires.judged.0.fit.few) in
    rw c.loop-t.invariant.words_unchanged (c.requires.judged.0, fits)

pub overflow_add-first : goal.overflow_add-first
overflow_add-first c =
    let at = c.loop-t.invariant in
    omega (arith, put_few c.requires.judged.0.fit at.first_is (rw at.words_unchanged at c.put_table-n.ensures.put))

pub loop-t-preserved : goal.loop-t-preserved
loop-t-preserved c =
    let at = c.loop-t.invariant in
    let fit = c.requires.judged.0.fit in
    let put = rw at.words_unchanged at c.put_table-n.ensures.put in
    let sized : Sized c.loop-t.slots c.loop-t.indices c.loop-t.buckets = record { of_slots = omega arith; of_indices = omega arith; of_buckets = omega arith } in
    record {
      first_is = put_next fit at.first_is put;
      filled = filled_more fit at.first_is put c.loop-t-test.true (c.loop-t.auto.heads ∙ c.requires.judged.1) sized at.filled;
      words_unchanged = c.put_table-n.ensures.words_unchanged ∙ at.words_unchanged;
    }
