-- `build_memory::fields::part_of` meets its contract: nothing past the end, the rest, or a stretch.
use Rattle.build_memory.proofs.MemoryLaws.{part_none, part_rest, part_mid}
use Rattle.build_memory.proofs.fields.part_of.Goals as goal

pub returns-then-arena-at : goal.returns-then-arena-at
returns-then-arena-at c = let a = c.args in part_none a.arena.now a.at a.size c.if-arena-at.true

pub returns-then-arena-at-2 : goal.returns-then-arena-at-2
returns-then-arena-at-2 c = let a = c.args in part_rest a.arena.now a.at a.size c.if-arena-at-2.true

pub returns : goal.returns
returns c = let a = c.args in part_mid a.arena.now a.at a.size
