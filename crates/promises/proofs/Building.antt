-- Building and writing: build_memory to build_nested, and write.
use mathlib.Core.Path.{◌≡◌, sym, ◌∙◌}
use Rattle.promises.specs.One.{One, OneAnswer}
use Rattle.promises.proofs.Same.{memories, outcomes}
use Rattle.build_memory.proofs.fields.table_word.Kinds as table-word-kinds
use Rattle.build_memory.proofs.fields.table_word.Reads as table-word-reads
use Rattle.build_memory.proofs.fields.item_word.Kinds as item-word-kinds
use Rattle.build_memory.proofs.fields.item_word.Reads as item-word-reads
use Rattle.build_memory.proofs.fields.part_of.Kinds as part-of-kinds
use Rattle.build_memory.proofs.fields.part_of.Reads as part-of-reads
use Rattle.build_memory.proofs.fields.key_of.Kinds as key-of-kinds
use Rattle.build_memory.proofs.fields.key_of.Reads as key-of-reads
use Rattle.build_memory.proofs.find.hash_word.Kinds as hash-word-kinds
use Rattle.build_memory.proofs.find.hash_word.Reads as hash-word-reads
use Rattle.build_memory.proofs.find.find_hashed.Kinds as find-hashed-kinds
use Rattle.build_memory.proofs.find.find_hashed.Reads as find-hashed-reads
use Rattle.build_memory.proofs.fresh.memory_words.Kinds as memory-words-kinds
use Rattle.build_memory.proofs.fresh.memory_words.Reads as memory-words-reads
use Rattle.build_memory.proofs.fresh.fresh.Kinds as fresh-kinds
use Rattle.build_memory.proofs.fresh.fresh.Reads as fresh-reads
use Rattle.build_memory.proofs.item.kind_of.Kinds as kind-of-kinds
use Rattle.build_memory.proofs.item.kind_of.Reads as kind-of-reads
use Rattle.build_memory.proofs.item.make_item.Kinds as make-item-kinds
use Rattle.build_memory.proofs.item.make_item.Reads as make-item-reads
use Rattle.build_memory.proofs.item.replace_item.Kinds as replace-item-kinds
use Rattle.build_memory.proofs.item.replace_item.Reads as replace-item-reads
use Rattle.build_memory.proofs.rules.judge.Kinds as judge-kinds
use Rattle.build_memory.proofs.rules.judge.Reads as judge-reads
use Rattle.build_rules.proofs.judge.judge_fully.Kinds as judge-fully-kinds
use Rattle.build_rules.proofs.judge.judge_fully.Reads as judge-fully-reads
use Rattle.build_tables.proofs.add.is_free_standing.Kinds as is-free-standing-kinds
use Rattle.build_tables.proofs.add.is_free_standing.Reads as is-free-standing-reads
use Rattle.build_tables.proofs.add.new_table.Kinds as new-table-kinds
use Rattle.build_tables.proofs.add.new_table.Reads as new-table-reads
use Rattle.build_tables.proofs.count.item_count.Kinds as item-count-kinds
use Rattle.build_tables.proofs.count.item_count.Reads as item-count-reads
use Rattle.build_values.proofs.insert.insert_below_path.Kinds as insert-below-path-kinds
use Rattle.build_values.proofs.insert.insert_below_path.Reads as insert-below-path-reads
use Rattle.build_values.proofs.insert.insert_value.Kinds as insert-value-kinds
use Rattle.build_values.proofs.insert.insert_value.Reads as insert-value-reads
use Rattle.build_nested.proofs.insert.insert_table.Kinds as insert-table-kinds
use Rattle.build_nested.proofs.insert.insert_table.Reads as insert-table-reads
use Rattle.write.proofs.write.write.Kinds as write-kinds
use Rattle.write.proofs.write.write.Reads as write-reads

-- ---- build_memory

pub table-word-unique : OneAnswer table-word-kinds.ps table-word-kinds.r table-word-reads.Post
table-word-unique κs a s t x y p q = p ∙ sym q

pub item-word-unique : OneAnswer item-word-kinds.ps item-word-kinds.r item-word-reads.Post
item-word-unique κs a s t x y p q = p ∙ sym q

pub part-of-unique : One part-of-kinds.ps part-of-kinds.r part-of-reads.Post (λ κs s t x y. s.now ≡ t.now)
part-of-unique κs a s t x y p q = p ∙ sym q

pub key-of-unique : One key-of-kinds.ps key-of-kinds.r key-of-reads.Post (λ κs s t x y. s.now ≡ t.now)
key-of-unique κs a s t x y p q = p ∙ sym q

pub hash-word-unique : OneAnswer hash-word-kinds.ps hash-word-kinds.r hash-word-reads.Post
hash-word-unique κs a s t x y p q = p ∙ sym q

pub find-hashed-unique : OneAnswer find-hashed-kinds.ps find-hashed-kinds.r find-hashed-reads.Post
find-hashed-unique κs a s t x y p q = p.0 ∙ sym q.0

pub memory-words-unique : OneAnswer memory-words-kinds.ps memory-words-kinds.r memory-words-reads.Post
memory-words-unique κs a s t x y p q = p ∙ sym q

pub fresh-unique : One fresh-kinds.ps fresh-kinds.r fresh-reads.Post (λ κs s t x y. (s ≡ t) × (x.0.now ≡ y.0.now))
fresh-unique κs a s t x y p q = let e = outcomes p q in (e.0, e.1)

pub kind-of-unique : OneAnswer kind-of-kinds.ps kind-of-kinds.r kind-of-reads.Post
kind-of-unique κs a s t x y p q = p ∙ sym q

pub make-item-unique : One make-item-kinds.ps make-item-kinds.r make-item-reads.Post (λ κs s t x y. (x.0.now ≡ y.0.now) × (x.1.0.now ≡ y.1.0.now))
make-item-unique κs a s t x y p q = memories p q

pub replace-item-unique : One replace-item-kinds.ps replace-item-kinds.r replace-item-reads.Post (λ κs s t x y. (x.0.now ≡ y.0.now) × (x.1.0.now ≡ y.1.0.now))
replace-item-unique κs a s t x y p q = memories p q

pub judge-unique : OneAnswer judge-kinds.ps judge-kinds.r judge-reads.Post
judge-unique κs a s t x y p q = p ∙ sym q

-- ---- build_rules

pub judge-fully-unique : OneAnswer judge-fully-kinds.ps judge-fully-kinds.r judge-fully-reads.Post
judge-fully-unique κs a s t x y p q = p ∙ sym q

-- ---- build_tables

pub is-free-standing-unique : OneAnswer is-free-standing-kinds.ps is-free-standing-kinds.r is-free-standing-reads.Post
is-free-standing-unique κs a s t x y p q = p ∙ sym q

pub new-table-unique : One new-table-kinds.ps new-table-kinds.r new-table-reads.Post (λ κs s t x y. (s ≡ t) × (x.0.now ≡ y.0.now))
new-table-unique κs a s t x y p q = let e = outcomes p q in (e.0, e.1)

pub item-count-unique : OneAnswer item-count-kinds.ps item-count-kinds.r item-count-reads.Post
item-count-unique κs a s t x y p q = p ∙ sym q

-- ---- build_values

pub insert-below-path-unique : One insert-below-path-kinds.ps insert-below-path-kinds.r insert-below-path-reads.Post (λ κs s t x y. (s ≡ t) × (x.0.now ≡ y.0.now) × (x.1.0.now ≡ y.1.0.now))
insert-below-path-unique κs a s t x y p q = outcomes p q

pub insert-value-unique : One insert-value-kinds.ps insert-value-kinds.r insert-value-reads.Post (λ κs s t x y. (s ≡ t) × (x.0.now ≡ y.0.now) × (x.1.0.now ≡ y.1.0.now))
insert-value-unique κs a s t x y p q = outcomes p q

-- ---- build_nested

pub insert-table-unique : One insert-table-kinds.ps insert-table-kinds.r insert-table-reads.Post (λ κs s t x y. (s ≡ t) × (x.0.now ≡ y.0.now) × (x.1.0.now ≡ y.1.0.now))
insert-table-unique κs a s t x y p q = outcomes p q

-- ---- write

pub write-unique : One write-kinds.ps write-kinds.r write-reads.Post (λ κs s t x y. (s ≡ t) × (x.0.now ≡ y.0.now) × (x.1.1.1.0.now ≡ y.1.1.1.0.now))
write-unique κs a s t x y p q = (p.1.0 ∙ sym q.1.0, p.0 ∙ sym q.0, p.1.1 ∙ sym q.1.1)
