-- `write_order::falling::chain_item` meets its contract: at the front where nothing is before it, else behind the last that is.
use Rattle.build_memory.specs.Memory.{key_of}
use Rattle.write_order.proofs.LinkLaws.{but_none, but_set}
use Rattle.write_order.proofs.PlaceLaws.{placed_front, placed_behind}
use Rattle.write_order.proofs.falling.chain_item.Goals as goal

pub returns-then-last-eq-EMPTY : goal.returns-then-last-eq-EMPTY
returns-then-last-eq-EMPTY c =
    let a = c.args in
    record {
      but_links = but_set a.words.now a.words.now a.i _ c.requires.least_words_in_bounds.1 (but_none a.words.now);
      placed = placed_front a.words.now a.heads.now (key_of a.words.now a.arena.now) a.b a.i c.requires.least_words_in_bounds.0 c.requires.least_words_in_bounds.1 c.last_above-last.ensures.by_index c.if-last-eq-EMPTY.true;
    }

pub returns : goal.returns
returns c =
    let a = c.args in let inside = c.last_above-last.ensures.upper_bound c.if-last-eq-EMPTY.false in
    record {
      but_links = but_set a.words.now _ _ a.i inside (but_set a.words.now a.words.now a.i _ c.requires.least_words_in_bounds.1 (but_none a.words.now));
      placed = placed_behind a.words.now a.heads.now (key_of a.words.now a.arena.now) a.b a.i c.requires.least_words_in_bounds.0 c.requires.least_words_in_bounds.1 c.last_above-last.ensures.by_index inside c.if-last-eq-EMPTY.false;
    }
