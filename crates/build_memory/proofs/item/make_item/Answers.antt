-- `build_memory::item::make_item` meets its contract.
use Rattle.build_memory.proofs.ItemLaws.{item_made}
use mathlib.Core.Path.{refl}
use Rattle.build_memory.proofs.item.make_item.Goals as goal

pub returns : goal.returns
returns c =
    item_made _ _ _ _ _ _ _ _ _ _ _ _ _ _ _ _ c.requires.hash_value refl c.put_spot.ensures c.put_held.ensures c.put_head.ensures
    c.put_counts.ensures c.put.ensures c.put-2.ensures
