-- Looking up, listing and checking: the crates read, read_listing, check_rules and check_table.
use mathlib.Core.Path.{◌≡◌, sym, ◌∙◌}
use Rattle.promises.specs.One.{One, OneAnswer}
use Rattle.read_chain.proofs.chain.parent_of.Kinds as parent-of-kinds
use Rattle.read_chain.proofs.chain.parent_of.Reads as parent-of-reads
use Rattle.read_chain.proofs.chain.climb.Kinds as climb-kinds
use Rattle.read_chain.proofs.chain.climb.Reads as climb-reads
use Rattle.read_chain.proofs.chain.chain_names.Kinds as chain-names-kinds
use Rattle.read_chain.proofs.chain.chain_names.Reads as chain-names-reads
use Rattle.read_find.proofs.find.bloom_passes.Kinds as bloom-passes-kinds
use Rattle.read_find.proofs.find.bloom_passes.Reads as bloom-passes-reads
use Rattle.read_find.proofs.find.run_of.Kinds as run-of-kinds
use Rattle.read_find.proofs.find.run_of.Reads as run-of-reads
use Rattle.read_find.proofs.find.find_item.Kinds as find-item-kinds
use Rattle.read_find.proofs.find.find_item.Reads as find-item-reads
use Rattle.read.proofs.lookup.lookup_in.Kinds as lookup-in-kinds
use Rattle.read.proofs.lookup.lookup_in.Reads as lookup-in-reads
use Rattle.read.proofs.lookup.value_of.Kinds as value-of-kinds
use Rattle.read.proofs.lookup.value_of.Reads as value-of-reads
use Rattle.read.proofs.lookup.lookup_value.Kinds as lookup-value-kinds
use Rattle.read.proofs.lookup.lookup_value.Reads as lookup-value-reads
use Rattle.read.proofs.lookup.lookup_table.Kinds as lookup-table-kinds
use Rattle.read.proofs.lookup.lookup_table.Reads as lookup-table-reads
use Rattle.read.proofs.layered.lookup_layered.Kinds as lookup-layered-kinds
use Rattle.read.proofs.layered.lookup_layered.Reads as lookup-layered-reads
use Rattle.read_listing.proofs.listing.key_size.Kinds as key-size-kinds
use Rattle.read_listing.proofs.listing.key_size.Reads as key-size-reads
use Rattle.read_listing.proofs.listing.Cursor.next_key.Kinds as next-key-kinds
use Rattle.read_listing.proofs.listing.Cursor.next_key.Reads as next-key-reads
use Rattle.read_listing.proofs.listing.Cursor.next_value.Kinds as next-value-kinds
use Rattle.read_listing.proofs.listing.Cursor.next_value.Reads as next-value-reads
use Rattle.read_listing.proofs.children.child_count.Kinds as child-count-kinds
use Rattle.read_listing.proofs.children.child_count.Reads as child-count-reads
use Rattle.read_listing.proofs.listing.Cursor.next_child.Kinds as next-child-kinds
use Rattle.read_listing.proofs.listing.Cursor.next_child.Reads as next-child-reads
use Rattle.check_hash.proofs.tally.joined_key.Kinds as joined-key-kinds
use Rattle.check_hash.proofs.tally.joined_key.Reads as joined-key-reads
use Rattle.check_keys.proofs.search.find_joined.Kinds as find-joined-kinds
use Rattle.check_keys.proofs.search.find_joined.Reads as find-joined-reads
use Rattle.check_rules.proofs.rules.value_opens.Kinds as value-opens-kinds
use Rattle.check_rules.proofs.rules.value_opens.Reads as value-opens-reads
use Rattle.check_rules.proofs.rules.lists_it.Kinds as lists-it-kinds
use Rattle.check_rules.proofs.rules.lists_it.Reads as lists-it-reads
use Rattle.check_table.proofs.check.check_table.Kinds as check-table-kinds
use Rattle.check_table.proofs.check.check_table.Reads as check-table-reads

-- ---- read

pub parent-of-unique : OneAnswer parent-of-kinds.ps parent-of-kinds.r parent-of-reads.Post
parent-of-unique κs a s t x y p q = p ∙ sym q

pub climb-unique : OneAnswer climb-kinds.ps climb-kinds.r climb-reads.Post
climb-unique κs a s t x y p q = p ∙ sym q

pub chain-names-unique : OneAnswer chain-names-kinds.ps chain-names-kinds.r chain-names-reads.Post
chain-names-unique κs a s t x y p q = p ∙ sym q

pub bloom-passes-unique : OneAnswer bloom-passes-kinds.ps bloom-passes-kinds.r bloom-passes-reads.Post
bloom-passes-unique κs a s t x y p q = p ∙ sym q

pub run-of-unique : OneAnswer run-of-kinds.ps run-of-kinds.r run-of-reads.Post
run-of-unique κs a s t x y p q = p ∙ sym q

pub find-item-unique : OneAnswer find-item-kinds.ps find-item-kinds.r find-item-reads.Post
find-item-unique κs a s t x y p q = p ∙ sym q

pub lookup-in-unique : OneAnswer lookup-in-kinds.ps lookup-in-kinds.r lookup-in-reads.Post
lookup-in-unique κs a s t x y p q = p ∙ sym q

pub value-of-unique : OneAnswer value-of-kinds.ps value-of-kinds.r value-of-reads.Post
value-of-unique κs a s t x y p q = p ∙ sym q

pub lookup-value-unique : OneAnswer lookup-value-kinds.ps lookup-value-kinds.r lookup-value-reads.Post
lookup-value-unique κs a s t x y p q = p ∙ sym q

pub lookup-table-unique : OneAnswer lookup-table-kinds.ps lookup-table-kinds.r lookup-table-reads.Post
lookup-table-unique κs a s t x y p q = p ∙ sym q

pub lookup-layered-unique : OneAnswer lookup-layered-kinds.ps lookup-layered-kinds.r lookup-layered-reads.Post
lookup-layered-unique κs a s t x y p q = p ∙ sym q

pub key-size-unique : OneAnswer key-size-kinds.ps key-size-kinds.r key-size-reads.Post
key-size-unique κs a s t x y p q = p ∙ sym q

pub next_key_unique : One next-key-kinds.ps next-key-kinds.r next-key-reads.Post (λ κs s t x y. (s ≡ t) × (x.1.1.1.1.0.now ≡ y.1.1.1.1.0.now))
next_key_unique κs a s t x y p q = (p.0 ∙ sym q.0, p.1 ∙ sym q.1)

pub next_value_unique : OneAnswer next-value-kinds.ps next-value-kinds.r next-value-reads.Post
next_value_unique κs a s t x y p q = p ∙ sym q

pub child-count-unique : OneAnswer child-count-kinds.ps child-count-kinds.r child-count-reads.Post
child-count-unique κs a s t x y p q = p ∙ sym q

pub next_child_unique : OneAnswer next-child-kinds.ps next-child-kinds.r next-child-reads.Post
next_child_unique κs a s t x y p q = p ∙ sym q

-- ---- check_keys

pub joined-key-unique : OneAnswer joined-key-kinds.ps joined-key-kinds.r joined-key-reads.Post
joined-key-unique κs a s t x y p q = p ∙ sym q

pub find-joined-unique : OneAnswer find-joined-kinds.ps find-joined-kinds.r find-joined-reads.Post
find-joined-unique κs a s t x y p q = p ∙ sym q

-- ---- check_rules and check_table

pub value-opens-unique : OneAnswer value-opens-kinds.ps value-opens-kinds.r value-opens-reads.Post
value-opens-unique κs a s t x y p q = p ∙ sym q

pub lists-it-unique : OneAnswer lists-it-kinds.ps lists-it-kinds.r lists-it-reads.Post
lists-it-unique κs a s t x y p q = p ∙ sym q

pub check-table-unique : OneAnswer check-table-kinds.ps check-table-kinds.r check-table-reads.Post
check-table-unique κs a s t x y p q = p ∙ sym q
