-- No function for C asks anything of its caller.
use Rattle.promises.specs.Asks.{AsksNothing}
use Rattle.gvdb.proofs.header.gvdb_abi.Kinds as abi-kinds
use Rattle.gvdb.proofs.header.gvdb_abi.Reads as abi-reads
use Rattle.gvdb.proofs.header.gvdb_read_header.Kinds as read-header-kinds
use Rattle.gvdb.proofs.header.gvdb_read_header.Reads as read-header-reads
use Rattle.gvdb.proofs.header.gvdb_lay_header.Kinds as lay-header-kinds
use Rattle.gvdb.proofs.header.gvdb_lay_header.Reads as lay-header-reads
use Rattle.gvdb.proofs.building.gvdb_memory_words.Kinds as memory-words-kinds
use Rattle.gvdb.proofs.building.gvdb_memory_words.Reads as memory-words-reads
use Rattle.gvdb.proofs.building.gvdb_fresh.Kinds as fresh-kinds
use Rattle.gvdb.proofs.building.gvdb_fresh.Reads as fresh-reads
use Rattle.gvdb.proofs.building.gvdb_new_table.Kinds as new-table-kinds
use Rattle.gvdb.proofs.building.gvdb_new_table.Reads as new-table-reads
use Rattle.gvdb.proofs.building.gvdb_insert.Kinds as insert-kinds
use Rattle.gvdb.proofs.building.gvdb_insert.Reads as insert-reads
use Rattle.gvdb.proofs.building.gvdb_insert_table.Kinds as insert-table-kinds
use Rattle.gvdb.proofs.building.gvdb_insert_table.Reads as insert-table-reads
use Rattle.gvdb.proofs.building.gvdb_item_count.Kinds as item-count-kinds
use Rattle.gvdb.proofs.building.gvdb_item_count.Reads as item-count-reads
use Rattle.gvdb.proofs.checking.gvdb_check.Kinds as check-kinds
use Rattle.gvdb.proofs.checking.gvdb_check.Reads as check-reads
use Rattle.gvdb.proofs.reading.gvdb_first_bad.Kinds as first-bad-kinds
use Rattle.gvdb.proofs.reading.gvdb_first_bad.Reads as first-bad-reads
use Rattle.gvdb.proofs.reading.gvdb_open.Kinds as open-kinds
use Rattle.gvdb.proofs.reading.gvdb_open.Reads as open-reads
use Rattle.gvdb.proofs.reading.gvdb_get.Kinds as get-kinds
use Rattle.gvdb.proofs.reading.gvdb_get.Reads as get-reads
use Rattle.gvdb.proofs.reading.gvdb_get_table.Kinds as get-table-kinds
use Rattle.gvdb.proofs.reading.gvdb_get_table.Reads as get-table-reads
use Rattle.gvdb.proofs.reading.gvdb_get_layered.Kinds as get-layered-kinds
use Rattle.gvdb.proofs.reading.gvdb_get_layered.Reads as get-layered-reads
use Rattle.gvdb.proofs.reading.gvdb_next_key.Kinds as next-key-kinds
use Rattle.gvdb.proofs.reading.gvdb_next_key.Reads as next-key-reads
use Rattle.gvdb.proofs.reading.gvdb_next_value.Kinds as next-value-kinds
use Rattle.gvdb.proofs.reading.gvdb_next_value.Reads as next-value-reads
use Rattle.gvdb.proofs.reading.gvdb_next_child.Kinds as next-child-kinds
use Rattle.gvdb.proofs.reading.gvdb_next_child.Reads as next-child-reads
use Rattle.gvdb.proofs.writing.gvdb_write.Kinds as write-kinds
use Rattle.gvdb.proofs.writing.gvdb_write.Reads as write-reads

pub abi-asks-nothing : AsksNothing abi-kinds.ps abi-reads.Pre
abi-asks-nothing κs a = tt

pub read-header-asks-nothing : AsksNothing read-header-kinds.ps read-header-reads.Pre
read-header-asks-nothing κs a = tt

pub lay-header-asks-nothing : AsksNothing lay-header-kinds.ps lay-header-reads.Pre
lay-header-asks-nothing κs a = tt

pub memory-words-asks-nothing : AsksNothing memory-words-kinds.ps memory-words-reads.Pre
memory-words-asks-nothing κs a = tt

pub fresh-asks-nothing : AsksNothing fresh-kinds.ps fresh-reads.Pre
fresh-asks-nothing κs a = tt

pub new-table-asks-nothing : AsksNothing new-table-kinds.ps new-table-reads.Pre
new-table-asks-nothing κs a = tt

pub insert-asks-nothing : AsksNothing insert-kinds.ps insert-reads.Pre
insert-asks-nothing κs a = tt

pub insert-table-asks-nothing : AsksNothing insert-table-kinds.ps insert-table-reads.Pre
insert-table-asks-nothing κs a = tt

pub item-count-asks-nothing : AsksNothing item-count-kinds.ps item-count-reads.Pre
item-count-asks-nothing κs a = tt

pub check-asks-nothing : AsksNothing check-kinds.ps check-reads.Pre
check-asks-nothing κs a = tt

pub first-bad-asks-nothing : AsksNothing first-bad-kinds.ps first-bad-reads.Pre
first-bad-asks-nothing κs a = tt

pub open-asks-nothing : AsksNothing open-kinds.ps open-reads.Pre
open-asks-nothing κs a = tt

pub get-asks-nothing : AsksNothing get-kinds.ps get-reads.Pre
get-asks-nothing κs a = tt

pub get-table-asks-nothing : AsksNothing get-table-kinds.ps get-table-reads.Pre
get-table-asks-nothing κs a = tt

pub get-layered-asks-nothing : AsksNothing get-layered-kinds.ps get-layered-reads.Pre
get-layered-asks-nothing κs a = tt

pub next-key-asks-nothing : AsksNothing next-key-kinds.ps next-key-reads.Pre
next-key-asks-nothing κs a = tt

pub next-value-asks-nothing : AsksNothing next-value-kinds.ps next-value-reads.Pre
next-value-asks-nothing κs a = tt

pub next-child-asks-nothing : AsksNothing next-child-kinds.ps next-child-reads.Pre
next-child-asks-nothing κs a = tt

pub write-asks-nothing : AsksNothing write-kinds.ps write-reads.Pre
write-asks-nothing κs a = tt
