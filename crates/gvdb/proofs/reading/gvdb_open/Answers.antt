-- `gvdb::reading::gvdb_open` meets its contract: the counts of a table that opened are small.
use Rattle.answers.proofs.OpenedLaws.{opened_small}
use Rattle.gvdb.proofs.reading.gvdb_open.Goals as goal

pub opened_of-requires : goal.opened_of-requires
opened_of-requires c = opened_small _ _ _ _ c.open_table.ensures
