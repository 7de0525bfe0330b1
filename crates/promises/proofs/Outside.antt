-- The functions for C.
use mathlib.Core.Path.{◌≡◌, sym, ◌∙◌}
use Rattle.promises.specs.One.{One, OneAnswer}
use Rattle.promises.proofs.Same.{outcomes}
use Rattle.gvdb.proofs.header.gvdb_abi.Kinds as abi-kinds
use Rattle.gvdb.proofs.header.gvdb_abi.Reads as abi-reads
use Rattle.gvdb.proofs.header.gvdb_read_header.Kinds as read-header-kinds
use Rattle.gvdb.proofs.header.gvdb_read_header.Reads as read-header-reads
use Rattle.gvdb.proofs.header.gvdb_lay_header.Kinds as lay-header-kinds
use Rattle.gvdb.proofs.header.gvdb_lay_header.Reads as lay-header-reads
use Rattle.gvdb.proofs.building.gvdb_memory_words.Kinds as memory-words-kinds
use Rattle.gvdb.proofs.building.gvdb_memory_words.Reads as memory-words-reads
use Rattle.gvdb.proofs.building.gvdb_fresh.Kinds as fresh-kinds
use Rattle.gvdb.proofs.building.gvdb_fresh.Reads as fresh-reads
use Rattle.gvdb.proofs.building.gvdb_new_table.Kinds as new-table-kinds
use Rattle.gvdb.proofs.building.gvdb_new_table.Reads as new-table-reads
use Rattle.gvdb.proofs.building.gvdb_insert.Kinds as insert-kinds
use Rattle.gvdb.proofs.building.gvdb_insert.Reads as insert-reads
use Rattle.gvdb.proofs.building.gvdb_insert_table.Kinds as insert-table-kinds
use Rattle.gvdb.proofs.building.gvdb_insert_table.Reads as insert-table-reads
use Rattle.gvdb.proofs.building.gvdb_item_count.Kinds as item-count-kinds
use Rattle.gvdb.proofs.building.gvdb_item_count.Reads as item-count-reads
use Rattle.gvdb.proofs.checking.gvdb_check.Kinds as check-kinds
use Rattle.gvdb.proofs.checking.gvdb_check.Reads as check-reads
use Rattle.gvdb.proofs.reading.gvdb_first_bad.Kinds as first-bad-kinds
use Rattle.gvdb.proofs.reading.gvdb_first_bad.Reads as first-bad-reads
use Rattle.gvdb.proofs.reading.gvdb_open.Kinds as open-kinds
use Rattle.gvdb.proofs.reading.gvdb_open.Reads as open-reads
use Rattle.gvdb.proofs.reading.gvdb_get.Kinds as get-kinds
use Rattle.gvdb.proofs.reading.gvdb_get.Reads as get-reads
use Rattle.gvdb.proofs.reading.gvdb_get_table.Kinds as get-table-kinds
use Rattle.gvdb.proofs.reading.gvdb_get_table.Reads as get-table-reads
use Rattle.gvdb.proofs.reading.gvdb_get_layered.Kinds as get-layered-kinds
use Rattle.gvdb.proofs.reading.gvdb_get_layered.Reads as get-layered-reads
use Rattle.gvdb.proofs.reading.gvdb_next_key.Kinds as next-key-kinds
use Rattle.gvdb.proofs.reading.gvdb_next_key.Reads as next-key-reads
use Rattle.gvdb.proofs.reading.gvdb_next_value.Kinds as next-value-kinds
use Rattle.gvdb.proofs.reading.gvdb_next_value.Reads as next-value-reads
use Rattle.gvdb.proofs.reading.gvdb_next_child.Kinds as next-child-kinds
use Rattle.gvdb.proofs.reading.gvdb_next_child.Reads as next-child-reads
use Rattle.gvdb.proofs.writing.gvdb_write.Kinds as write-kinds
use Rattle.gvdb.proofs.writing.gvdb_write.Reads as write-reads

pub abi-unique : OneAnswer abi-kinds.ps abi-kinds.r abi-reads.Post
abi-unique κs a s t x y p q = p ∙ sym q

pub read-header-unique : OneAnswer read-header-kinds.ps read-header-kinds.r read-header-reads.Post
read-header-unique κs a s t x y p q = p ∙ sym q

pub lay-header-unique : One lay-header-kinds.ps lay-header-kinds.r lay-header-reads.Post (λ κs s t x y. (s ≡ t) × (x.0.now ≡ y.0.now))
lay-header-unique κs a s t x y p q = (p.0 ∙ sym q.0, p.1 ∙ sym q.1)

pub memory-words-unique : OneAnswer memory-words-kinds.ps memory-words-kinds.r memory-words-reads.Post
memory-words-unique κs a s t x y p q = p ∙ sym q

pub fresh-unique : One fresh-kinds.ps fresh-kinds.r fresh-reads.Post (λ κs s t x y. (s ≡ t) × (x.0.now ≡ y.0.now))
fresh-unique κs a s t x y p q = let e = outcomes p q in (e.0, e.1)

pub new-table-unique : One new-table-kinds.ps new-table-kinds.r new-table-reads.Post (λ κs s t x y. (s ≡ t) × (x.0.now ≡ y.0.now))
new-table-unique κs a s t x y p q = let e = outcomes p q in (e.0, e.1)

pub insert-unique : One insert-kinds.ps insert-kinds.r insert-reads.Post (λ κs s t x y. (s ≡ t) × (x.0.now ≡ y.0.now) × (x.1.0.now ≡ y.1.0.now))
insert-unique κs a s t x y p q = outcomes p q

pub insert-table-unique : One insert-table-kinds.ps insert-table-kinds.r insert-table-reads.Post (λ κs s t x y. (s ≡ t) × (x.0.now ≡ y.0.now) × (x.1.0.now ≡ y.1.0.now))
insert-table-unique κs a s t x y p q = outcomes p q

pub item-count-unique : OneAnswer item-count-kinds.ps item-count-kinds.r item-count-reads.Post
item-count-unique κs a s t x y p q = p ∙ sym q

pub check_unique : OneAnswer check-kinds.ps check-kinds.r check-reads.Post
check_unique κs a s t x y p q = p ∙ sym q

pub first_bad_unique : OneAnswer first-bad-kinds.ps first-bad-kinds.r first-bad-reads.Post
first_bad_unique κs a s t x y p q = p ∙ sym q

pub open-unique : OneAnswer open-kinds.ps open-kinds.r open-reads.Post
open-unique κs a s t x y p q = p ∙ sym q

pub get-unique : OneAnswer get-kinds.ps get-kinds.r get-reads.Post
get-unique κs a s t x y p q = p ∙ sym q

pub get-table-unique : OneAnswer get-table-kinds.ps get-table-kinds.r get-table-reads.Post
get-table-unique κs a s t x y p q = p ∙ sym q

pub get-layered-unique : OneAnswer get-layered-kinds.ps get-layered-kinds.r get-layered-reads.Post
get-layered-unique κs a s t x y p q = p ∙ sym q

pub next_key_unique : One next-key-kinds.ps next-key-kinds.r next-key-reads.Post (λ κs s t x y. (s ≡ t) × (x.1.1.1.1.0.now ≡ y.1.1.1.1.0.now))
next_key_unique κs a s t x y p q = (p.0 ∙ sym q.0, p.1 ∙ sym q.1)

pub next_value_unique : OneAnswer next-value-kinds.ps next-value-kinds.r next-value-reads.Post
next_value_unique κs a s t x y p q = p ∙ sym q

pub next_child_unique : OneAnswer next-child-kinds.ps next-child-kinds.r next-child-reads.Post
next_child_unique κs a s t x y p q = p ∙ sym q

pub write-unique : One write-kinds.ps write-kinds.r write-reads.Post (λ κs s t x y. (s ≡ t) × (x.0.now ≡ y.0.now) × (x.1.1.1.0.now ≡ y.1.1.1.0.now))
write-unique κs a s t x y p q = (p.0 ∙ sym q.0, p.1.0 ∙ sym q.1.0, p.1.1 ∙ sym q.1.1)
