-- `write_numbers::collect::collect` meets its contract. The invariant: the items of the table among the first i are stored.
use mathlib.Core.Path.{◌≡◌, sym, ◌∙◌}
use native.Mathlib.Omega.{arith}
use Rattle.build_memory.specs.Memory.{item_total, item_table}
use Rattle.write_numbers.specs.Fill.{all_of_table}
use Rattle.write_numbers.proofs.OfTableLaws.{of_table-none, of_table-start, of_table_count, of_table-put, of_table_count_pass, of_table-put_pass}
use Rattle.write_numbers.proofs.collect.collect.Goals as goal
use Rattle.write_numbers.proofs.collect.collect.Goals.{then-table-t, else-table-t}

pub loop-i-init : goal.loop-i-init
loop-i-init c =
    let a = c.args in
    record { count = of_table-none a.words.now a.t a.out.now; few = omega arith; put = of_table-start a.words.now a.t a.out.now }

pub loop-i-preserved : goal.loop-i-preserved
loop-i-preserved c =
    let a = c.args in
    let at = c.loop-i in
    elim c.if-table-t.branch [
      | then-table-t w ↦
          let e = sym c.item_word-table.ensures ∙ w.if-table-t.true in
          record {
            count = w.n-is ∙ of_table_count a.words.now a.t a.out.now at.n at.i at.invariant.count e;
            few = omega arith;
            put = w.out-is ∙ rw at.invariant.put (of_table-put a.words.now a.t a.out.now at.n at.i at.invariant.count e);
          }
      | else-table-t w ↦
          let ne : item_table a.words.now at.i ≡ a.t → ⊥ = λ e. w.if-table-t.false (c.item_word-table.ensures ∙ e) in
          record {
            count = w.n-is ∙ of_table_count_pass a.words.now a.t a.out.now at.n at.i at.invariant.count ne;
            few = omega arith;
            put = w.out-is ∙ at.invariant.put ∙ of_table-put_pass a.words.now a.t a.out.now at.n at.i at.invariant.count ne;
          }
    ]

pub returns : goal.returns
unfolding all_of_table
returns c =
    let all : c.loop-i.i ≡ item_total c.args.words.now = omega arith in
    record { count = rw all at c.loop-i.invariant.count; put = rw all at c.loop-i.invariant.put }
