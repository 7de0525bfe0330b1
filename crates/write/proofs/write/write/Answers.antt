-- `write::write::write` meets its contract, answer by answer, in the document's order.
use Rattle.build_tables.specs.Table.{free_standing}
use mathlib.Core.Path.{refl, sym, ap, ◌∙◌}
use native.Mathlib.Omega.{arith}
use Rattle.key_hash.specs.Hash.{rule_of}
use Rattle.write_slots.proofs.StateLaws.{fully_valid_lem}
use Rattle.write.proofs.AnswerLaws.{write-broken, write_unknown, write_many, index_and_write, image_after_lem}
use Rattle.build_tables.proofs.TableLaws.{free_standing_facts}
use Rattle.write.proofs.write.write.Goals as goal

pub returns-then-not-judge_fully : goal.returns-then-not-judge_fully
returns-then-not-judge_fully c =
    let a = c.args in
    let g = write-broken (rule_of a.form) a.filter a.words.now a.arena.now a.image.now a.table (sym c.judge_fully.ensures ∙ c.if-not-judge_fully.true) in
    record {
      words_unchanged = refl;
      value = g.answers;
      image_after = g.lays ∙ image_after_lem (rule_of a.form) a.filter a.words.now a.arena.now a.image.now a.table;
    }

pub is_free_standing-requires : goal.is_free_standing-requires
is_free_standing-requires c = (fully_valid_lem _ _ (sym c.judge_fully.ensures ∙ c.if-not-judge_fully.false)).valid

pub returns-then-not-is_free_standing : goal.returns-then-not-is_free_standing
returns-then-not-is_free_standing c =
    let a = c.args in
    let g = write_unknown (rule_of a.form) a.filter a.words.now a.arena.now a.image.now a.table (sym c.judge_fully.ensures ∙ c.if-not-judge_fully.false) (sym c.is_free_standing.ensures ∙ c.if-not-is_free_standing.true) in
    record {
      words_unchanged = refl;
      value = g.answers;
      image_after = g.lays ∙ image_after_lem (rule_of a.form) a.filter a.words.now a.arena.now a.image.now a.table;
    }

pub returns-then-count-gt-MOST_FILTER : goal.returns-then-count-gt-MOST_FILTER
returns-then-count-gt-MOST_FILTER c =
    let a = c.args in
    let free = sym c.is_free_standing.ensures ∙ c.if-not-is_free_standing.false in
    let g = write_many (rule_of a.form) a.filter a.words.now a.arena.now a.image.now a.table (sym c.judge_fully.ensures ∙ c.if-not-judge_fully.false) free (omega (arith, c.if-count-gt-MOST_FILTER.true)) in
    record {
      words_unchanged = refl;
      value = g.answers;
      image_after = g.lays ∙ image_after_lem (rule_of a.form) a.filter a.words.now a.arena.now a.image.now a.table;
    }

pub index_and_write-requires-clause-table_lt_most_tables : goal.index_and_write-requires-clause-table_lt_most_tables
index_and_write-requires-clause-table_lt_most_tables c =
    let s = (fully_valid_lem _ _ (sym c.judge_fully.ensures ∙ c.if-not-judge_fully.false)).valid in
    let known = (free_standing_facts c.args.words.now c.args.table (sym c.is_free_standing.ensures ∙ c.if-not-is_free_standing.false)).0 in
    (omega (arith, s.tables, known), omega arith)

pub returns : goal.returns
returns c =
    let a = c.args in
    let ok = sym c.judge_fully.ensures ∙ c.if-not-judge_fully.false in
    let free = sym c.is_free_standing.ensures ∙ c.if-not-is_free_standing.false in
    let g = index_and_write (rule_of a.form) a.filter a.words.now a.arena.now a.image.now a.table ok free (omega (arith, c.if-count-gt-MOST_FILTER.false)) _ _ c.index_and_write.ensures.value c.index_and_write.ensures.image_after in
    record {
      words_unchanged = c.index_and_write.ensures.words_unchanged;
      value = g.answers;
      image_after = g.lays ∙ image_after_lem (rule_of a.form) a.filter a.words.now a.arena.now a.image.now a.table;
    }
