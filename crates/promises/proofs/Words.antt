-- Numbers, texts, pointers and tables: words, text and layout.
use mathlib.Core.Path.{◌≡◌, sym, ◌∙◌}
use Rattle.promises.specs.One.{One, OneAnswer}
use Rattle.words.proofs.align.bytes_of.Kinds as bytes-of-kinds
use Rattle.words.proofs.align.bytes_of.Reads as bytes-of-reads
use Rattle.words.proofs.bits.bloom_count.Kinds as bloom-count-kinds
use Rattle.words.proofs.bits.bloom_count.Reads as bloom-count-reads
use Rattle.words.proofs.bits.bloom_shift.Kinds as bloom-shift-kinds
use Rattle.words.proofs.bits.bloom_shift.Reads as bloom-shift-reads
use Rattle.words.proofs.bits.bit_set.Kinds as bit-set-kinds
use Rattle.words.proofs.bits.bit_set.Reads as bit-set-reads
use Rattle.words.proofs.bits.put_bit.Kinds as put-bit-kinds
use Rattle.words.proofs.bits.put_bit.Reads as put-bit-reads
use Rattle.key_hash.proofs.hash.wrapping_mul.Kinds as wrapping-mul-kinds
use Rattle.key_hash.proofs.hash.wrapping_mul.Reads as wrapping-mul-reads
use Rattle.key_hash.proofs.hash.byte_counts.Kinds as byte-counts-kinds
use Rattle.key_hash.proofs.hash.byte_counts.Reads as byte-counts-reads
use Rattle.key_hash.proofs.hash.hash_on.Kinds as hash-on-kinds
use Rattle.key_hash.proofs.hash.hash_on.Reads as hash-on-reads
use Rattle.key_hash.proofs.hash.hash_key.Kinds as hash-key-kinds
use Rattle.key_hash.proofs.hash.hash_key.Reads as hash-key-reads
use Rattle.key_hash.proofs.hash.djb_hash.Kinds as djb-hash-kinds
use Rattle.key_hash.proofs.hash.djb_hash.Reads as djb-hash-reads
use Rattle.text.proofs.ascii.is_ascii.Kinds as is-ascii-kinds
use Rattle.text.proofs.ascii.is_ascii.Reads as is-ascii-reads
use Rattle.key_order.proofs.compare.same_bytes.Kinds as same-bytes-kinds
use Rattle.key_order.proofs.compare.same_bytes.Reads as same-bytes-reads
use Rattle.key_order.proofs.keyorder.less.Kinds as less-kinds
use Rattle.key_order.proofs.keyorder.less.Reads as less-reads
use Rattle.text.proofs.utf8.first_bad.Kinds as first-bad-kinds
use Rattle.text.proofs.utf8.first_bad.Reads as first-bad-reads
use Rattle.text.proofs.utf8.is_utf8.Kinds as is-utf8-kinds
use Rattle.text.proofs.utf8.is_utf8.Reads as is-utf8-reads
use Rattle.text.proofs.utf8.starts_whole.Kinds as starts-whole-kinds
use Rattle.text.proofs.utf8.starts_whole.Reads as starts-whole-reads
use Rattle.file_header.proofs.header.read_header.Kinds as read-header-kinds
use Rattle.file_header.proofs.header.read_header.Reads as read-header-reads
use Rattle.file_header.proofs.header.lay_header.Kinds as lay-header-kinds
use Rattle.file_header.proofs.header.lay_header.Reads as lay-header-reads
use Rattle.layout.proofs.item.open_value.Kinds as open-value-kinds
use Rattle.layout.proofs.item.open_value.Reads as open-value-reads
use Rattle.layout.proofs.kind.byte_of.Kinds as byte-of-kinds
use Rattle.layout.proofs.kind.byte_of.Reads as byte-of-reads
use Rattle.layout.proofs.kind.kind_known.Kinds as kind-known-kinds
use Rattle.layout.proofs.kind.kind_known.Reads as kind-known-reads
use Rattle.layout.proofs.pointer.open_pointer.Kinds as open-pointer-kinds
use Rattle.layout.proofs.pointer.open_pointer.Reads as open-pointer-reads
use Rattle.layout.proofs.refusal.bad_at.Kinds as bad-at-kinds
use Rattle.layout.proofs.refusal.bad_at.Reads as bad-at-reads
use Rattle.layout.proofs.refusal.number_of.Kinds as number-of-kinds
use Rattle.layout.proofs.refusal.number_of.Reads as number-of-reads
use Rattle.layout.proofs.table.open_table.Kinds as open-table-kinds
use Rattle.layout.proofs.table.open_table.Reads as open-table-reads

-- ---- words

pub bytes-of-unique : OneAnswer bytes-of-kinds.ps bytes-of-kinds.r bytes-of-reads.Post
bytes-of-unique κs a s t x y p q = p ∙ sym q

pub bloom-count-unique : OneAnswer bloom-count-kinds.ps bloom-count-kinds.r bloom-count-reads.Post
bloom-count-unique κs a s t x y p q = p ∙ sym q

pub bloom-shift-unique : OneAnswer bloom-shift-kinds.ps bloom-shift-kinds.r bloom-shift-reads.Post
bloom-shift-unique κs a s t x y p q = p ∙ sym q

pub bit-set-unique : OneAnswer bit-set-kinds.ps bit-set-kinds.r bit-set-reads.Post
bit-set-unique κs a s t x y p q = p ∙ sym q

pub put-bit-unique : OneAnswer put-bit-kinds.ps put-bit-kinds.r put-bit-reads.Post
put-bit-unique κs a s t x y p q = p ∙ sym q

pub wrapping-mul-unique : OneAnswer wrapping-mul-kinds.ps wrapping-mul-kinds.r wrapping-mul-reads.Post
wrapping-mul-unique κs a s t x y p q = p ∙ sym q

pub byte-counts-unique : OneAnswer byte-counts-kinds.ps byte-counts-kinds.r byte-counts-reads.Post
byte-counts-unique κs a s t x y p q = p.0 ∙ sym q.0

pub hash-on-unique : OneAnswer hash-on-kinds.ps hash-on-kinds.r hash-on-reads.Post
hash-on-unique κs a s t x y p q = p ∙ sym q

pub hash-key-unique : OneAnswer hash-key-kinds.ps hash-key-kinds.r hash-key-reads.Post
hash-key-unique κs a s t x y p q = p ∙ sym q

pub djb-hash-unique : OneAnswer djb-hash-kinds.ps djb-hash-kinds.r djb-hash-reads.Post
djb-hash-unique κs a s t x y p q = p ∙ sym q

-- ---- text

pub is-ascii-unique : OneAnswer is-ascii-kinds.ps is-ascii-kinds.r is-ascii-reads.Post
is-ascii-unique κs a s t x y p q = p ∙ sym q

pub same-bytes-unique : OneAnswer same-bytes-kinds.ps same-bytes-kinds.r same-bytes-reads.Post
same-bytes-unique κs a s t x y p q = p ∙ sym q

pub less-unique : OneAnswer less-kinds.ps less-kinds.r less-reads.Post
less-unique κs a s t x y p q = p ∙ sym q

pub first_bad_unique : OneAnswer first-bad-kinds.ps first-bad-kinds.r first-bad-reads.Post
first_bad_unique κs a s t x y p q = p ∙ sym q

pub is-utf8-unique : OneAnswer is-utf8-kinds.ps is-utf8-kinds.r is-utf8-reads.Post
is-utf8-unique κs a s t x y p q = p ∙ sym q

pub starts-whole-unique : OneAnswer starts-whole-kinds.ps starts-whole-kinds.r starts-whole-reads.Post
starts-whole-unique κs a s t x y p q = p ∙ sym q

-- ---- layout

pub open-value-unique : OneAnswer open-value-kinds.ps open-value-kinds.r open-value-reads.Post
open-value-unique κs a s t x y p q = p ∙ sym q

pub byte-of-unique : OneAnswer byte-of-kinds.ps byte-of-kinds.r byte-of-reads.Post
byte-of-unique κs a s t x y p q = p ∙ sym q

pub kind-known-unique : OneAnswer kind-known-kinds.ps kind-known-kinds.r kind-known-reads.Post
kind-known-unique κs a s t x y p q = p ∙ sym q

pub open-pointer-unique : OneAnswer open-pointer-kinds.ps open-pointer-kinds.r open-pointer-reads.Post
open-pointer-unique κs a s t x y p q = p ∙ sym q

pub number-of-unique : OneAnswer number-of-kinds.ps number-of-kinds.r number-of-reads.Post
number-of-unique κs a s t x y p q = p ∙ sym q

pub bad-at-unique : OneAnswer bad-at-kinds.ps bad-at-kinds.r bad-at-reads.Post
bad-at-unique κs a s t x y p q = p ∙ sym q

pub read-header-unique : OneAnswer read-header-kinds.ps read-header-kinds.r read-header-reads.Post
read-header-unique κs a s t x y p q = p ∙ sym q

pub lay-header-unique : One lay-header-kinds.ps lay-header-kinds.r lay-header-reads.Post (λ κs s t x y. (s ≡ t) × (x.0.now ≡ y.0.now))
lay-header-unique κs a s t x y p q = (p.0 ∙ sym q.0, p.1 ∙ sym q.1)

pub open-table-unique : OneAnswer open-table-kinds.ps open-table-kinds.r open-table-reads.Post
open-table-unique κs a s t x y p q = p ∙ sym q
