-- `write::write::write_unless_empty` meets its contract: the numbered table's image is the one that the memory means.
use Prim.Native.Nat.{ℕ}
use lib.ListN.{length-replicate, get_or-replicate}
use Rattle.key_hash.specs.Hash.{rule_of}
use Rattle.write_parts.specs.Numbered.{numbered_size}
use Rattle.write.proofs.AnswerLaws.{table_empty, table_indexed}
use Rattle.write.proofs.write.write_unless_empty.Goals as goal

pub returns-then-has_empty : goal.returns-then-has_empty
returns-then-has_empty c =
    let a = c.args in
    let p = c.requires in
    let g = table_empty (rule_of a.form) a.filter a.words.now a.arena.now a.image.now a.table c.has_empty.ensures c.if-has_empty.true in
    record {
      value = g.answers;
      image_after = g.lays;
    }

pub fill_numbered-requires-clause-numbered_len : goal.fill_numbered-requires-clause-numbered_len
fill_numbered-requires-clause-numbered_len c = (length-replicate {A = ℕ} numbered_size 0, λ k h. get_or-replicate {A = ℕ} numbered_size k 0 0 h)

pub returns : goal.returns
returns c =
    let a = c.args in
    let g = table_indexed (rule_of a.form) a.filter a.words.now a.arena.now a.image.now a.table c.has_empty.ensures c.if-has_empty.false _ _ _ c.fill_numbered.ensures c.requires.table_lt_most_tables.0 c.write_if_fits.ensures.value c.write_if_fits.ensures.image_after in
    record {
      value = g.answers;
      image_after = g.lays;
    }
