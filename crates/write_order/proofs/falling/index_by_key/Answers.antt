-- `write_order::falling::index_by_key` meets its contract: a fresh head for each bucket, the items chained, and the chains taken apart again.
use mathlib.Core.Path.{◌∙◌}
use native.Mathlib.Omega.{arith}
use Rattle.layout.specs.Limits.{most_items}
use Rattle.write_order.specs.Key.{Known}
use Rattle.write_order.proofs.ChainLaws.{empty_fresh}
use Rattle.write_order.proofs.LinkLaws.{links_long, but_empty}
use Rattle.write_order.proofs.BucketLaws.{lists, all_chained, all_indexed}
use Rattle.write_order.proofs.falling.index_by_key.Goals as goal

pub chain_members-requires-clause-empty : goal.chain_members-requires-clause-empty
chain_members-requires-clause-empty c = (empty_fresh most_items, c.requires.rooms.1)

pub slice_bounds-index_all-end-2 : goal.slice_bounds-index_all-end-2
unfolding Known
slice_bounds-index_all-end-2 c = omega (arith, c.requires.known.0.0, c.chain_members.auto.words)

pub index_all-requires-clause-has_chains : goal.index_all-requires-clause-has_chains
index_all-requires-clause-has_chains c =
    let a = c.args in
    record {
      lists = lists a.form a.words.now a.arena.now a.members.now;
      chains = all_chained a.form a.words.now a.arena.now a.members.now _ _ c.requires.known.1 c.chain_members.ensures.chained_by;
    }

pub returns : goal.returns
unfolding Known
returns c =
    let a = c.args in
    let long = c.requires.known.0.0 in
    let both = all_indexed a.form a.words.now a.arena.now a.members.now (c.index_all.ensures.by_index _ (all_chained a.form a.words.now a.arena.now a.members.now _ _ c.requires.known.1 c.chain_members.ensures.chained_by)) in
    record {
      words_unchanged = but_empty a.words.now c.chain_members.new.words c.index_all.new.links long c.chain_members.ensures.but_links
          (c.index_all.auto.links ∙ links_long c.chain_members.new.words (omega (arith, long, c.chain_members.auto.words))) c.index_all.ensures.empty c.requires.rooms.1;
      after = both.0;
      firsts_after = both.1;
    }
