-- `write_numbers::fill::roster_all` meets its contract: the parts filled, then copied one behind the other.
use mathlib.Core.Path.{refl}
use Rattle.write_numbers.proofs.RosterLaws.{whole_judged, rostered}
use Rattle.write_numbers.proofs.fill.roster_all.Goals as goal

pub fill-requires-clause-judged : goal.fill-requires-clause-judged
fill-requires-clause-judged c = (whole_judged c.args.words.now c.args.arena.now c.requires.arena_value, refl)

pub returns-clause-rostered : goal.returns-clause-rostered
returns-clause-rostered c =
    rostered c.fill.new.heads c.fill.new.slots c.fill.new.indices c.fill.new.buckets c.args.roster.now
    c.put.new.out c.put-2.new.out c.put-3.new.out c.put-4.new.out
    c.requires.roster_len c.fill.auto.heads (record { of_slots = c.fill.auto.slots; of_indices = c.fill.auto.indices; of_buckets = c.fill.auto.buckets })
    c.put.ensures c.put-2.ensures c.put-3.ensures c.put-4.ensures
    c.args.words.now c.args.arena.now c.requires.arena_value c.fill.ensures.filled
