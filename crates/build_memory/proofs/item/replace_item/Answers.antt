-- `build_memory::item::replace_item` meets its contract.
use Rattle.build_memory.proofs.ItemLaws.{item_replaced}
use Rattle.build_memory.proofs.item.replace_item.Goals as goal

pub returns : goal.returns
returns c = item_replaced _ _ _ _ _ _ _ _ _ c.put_held.ensures c.put_counts.ensures c.put.ensures
