-- The images of document 01, 'Worked numbers', and two with a filter word, byte by byte: they come out of the definition by computation.
use Rattle.std.specs.Prelude.{◌≡◌, refl, [], ◌∷◌, length, drop}
use Rattle.words.specs.Bits.{bit_put}
use Rattle.words.specs.Choice.{pick}
use Rattle.words.specs.Store.{copies}
use Rattle.words.specs.Field.{spelled}
use Rattle.key_hash.specs.Hash.{hash_from, hash_by, plain}
use Rattle.words.specs.Align.{aligned}
use Rattle.key_order.specs.Order.{precedes}
use Rattle.layout.specs.Item.{no_item}
use Rattle.model.specs.Table.{Content, State, entry_at, is_child, fragment_at, members_below, rows_of}
use Rattle.model.specs.Walk.{entry}
use Rattle.image.specs.Index.{insert_key, sort_keys, key_order, hashes_of, bucket_of, run, runs_below, by_bucket, bucket_start, by_index, item_of, index_in, laid_index}
use Rattle.layout.specs.Sizes.{chunk_size}
use Rattle.image.specs.Plan.{words_of, with_hash, filter_word, value_start, item_bytes, payload, place, record_bytes, records, plan_bytes}
use Rattle.image.specs.Image.{children_in, children_of, parent_index, child_words, value_of, covers_of, plan_of, table_bytes, image_of}

unfoldable pub none : State
none = rows_of []

unfoldable pub one : State
one = rows_of (entry 0 (97 ∷ []) (Content.bytes (1 ∷ 2 ∷ [])) no_item ∷ [])

unfoldable pub two : State
two = rows_of (entry 0 (97 ∷ 47 ∷ []) Content.container no_item ∷ entry 0 (97 ∷ 47 ∷ 98 ∷ []) (Content.bytes (7 ∷ [])) 0 ∷ [])

-- an empty table gives 32 bytes: zeros, the first word, no buckets
pub empty_image : drop 24 (image_of plain 0 none 0) ≡ 0 ∷ 0 ∷ 0 ∷ 0x28 ∷ 0 ∷ 0 ∷ 0 ∷ 0 ∷ []
unfolding none one two pick copies spelled hash_by hash_from aligned precedes entry_at is_child fragment_at members_below rows_of insert_key sort_keys key_order hashes_of bucket_of run runs_below by_bucket bucket_start by_index item_of index_in laid_index words_of chunk_size value_start item_bytes payload place record_bytes records plan_bytes children_in children_of parent_index child_words value_of covers_of plan_of table_bytes image_of
empty_image = refl

-- "a" with 01 02 gives 66
pub one-image : drop 24 (image_of plain 0 one 0)
    ≡ 0 ∷ 0 ∷ 0 ∷ 0x28 ∷ 1 ∷ 0 ∷ 0 ∷ 0 ∷ 0 ∷ 0 ∷ 0 ∷ 0 ∷ 0x06 ∷ 0xB6 ∷ 0x02 ∷ 0 ∷ 0xFF ∷ 0xFF ∷ 0xFF ∷ 0xFF ∷ 0x3C ∷ 0 ∷ 0 ∷ 0 ∷ 1 ∷ 0 ∷ 0x76 ∷ 0
    ∷ 0x40 ∷ 0 ∷ 0 ∷ 0 ∷ 0x42 ∷ 0 ∷ 0 ∷ 0 ∷ 0x61 ∷ 0 ∷ 0 ∷ 0 ∷ 1 ∷ 2 ∷ []
unfolding none one two pick copies spelled hash_by hash_from aligned precedes entry_at is_child fragment_at members_below rows_of insert_key sort_keys key_order hashes_of bucket_of run runs_below by_bucket bucket_start by_index item_of index_in laid_index words_of chunk_size value_start item_bytes payload place record_bytes records plan_bytes children_in children_of parent_index child_words value_of covers_of plan_of table_bytes image_of
one-image = refl

-- "a/b" with 07 gives 104: both in bucket 1; item 0 is "b", its parent 1, its value 96 to 97; item 1 is "a/" at 97 to 99, its children 100 to 104
pub two-image : drop 24 (image_of plain 0 two 0)
    ≡ 0 ∷ 0 ∷ 0 ∷ 0x28 ∷ 2 ∷ 0 ∷ 0 ∷ 0 ∷ 0 ∷ 0 ∷ 0 ∷ 0 ∷ 0 ∷ 0 ∷ 0 ∷ 0
    ∷ 0xF7 ∷ 0x55 ∷ 0x88 ∷ 0x0B ∷ 1 ∷ 0 ∷ 0 ∷ 0 ∷ 88 ∷ 0 ∷ 0 ∷ 0 ∷ 1 ∷ 0 ∷ 0x76 ∷ 0 ∷ 96 ∷ 0 ∷ 0 ∷ 0 ∷ 97 ∷ 0 ∷ 0 ∷ 0
    ∷ 0xF5 ∷ 0x76 ∷ 0x59 ∷ 0x00 ∷ 0xFF ∷ 0xFF ∷ 0xFF ∷ 0xFF ∷ 97 ∷ 0 ∷ 0 ∷ 0 ∷ 2 ∷ 0 ∷ 0x4C ∷ 0 ∷ 100 ∷ 0 ∷ 0 ∷ 0 ∷ 104 ∷ 0 ∷ 0 ∷ 0
    ∷ 98 ∷ 0 ∷ 0 ∷ 0 ∷ 0 ∷ 0 ∷ 0 ∷ 0 ∷ 7 ∷ 97 ∷ 47 ∷ 0 ∷ 0 ∷ 0 ∷ 0 ∷ 0 ∷ []
unfolding none one two pick copies spelled hash_by hash_from aligned precedes entry_at is_child fragment_at members_below rows_of insert_key sort_keys key_order hashes_of bucket_of run runs_below by_bucket bucket_start by_index item_of index_in laid_index words_of chunk_size value_start item_bytes payload place record_bytes records plan_bytes children_in children_of parent_index child_words value_of covers_of plan_of table_bytes image_of
two-image = refl

pub lengths : (length (image_of plain 0 none 0) ≡ 32) × (length (image_of plain 0 one 0) ≡ 66) × (length (image_of plain 0 two 0) ≡ 104)
unfolding none one two pick copies spelled hash_by hash_from aligned precedes entry_at is_child fragment_at members_below rows_of insert_key sort_keys key_order hashes_of bucket_of run runs_below by_bucket bucket_start by_index item_of index_in laid_index words_of chunk_size value_start item_bytes payload place record_bytes records plan_bytes children_in children_of parent_index child_words value_of covers_of plan_of table_bytes image_of
lengths = (refl, refl, refl)

-- no items and one filter word give 36: the first word counts it, and no bit of it is set
pub empty_filtered : drop 24 (image_of plain 1 none 0) ≡ 1 ∷ 0 ∷ 0 ∷ 0x28 ∷ 0 ∷ 0 ∷ 0 ∷ 0 ∷ 0 ∷ 0 ∷ 0 ∷ 0 ∷ []
unfolding none one two pick copies spelled hash_by hash_from aligned precedes entry_at is_child fragment_at members_below rows_of insert_key sort_keys key_order hashes_of bucket_of run runs_below by_bucket bucket_start by_index item_of index_in laid_index bit_put words_of with_hash filter_word chunk_size value_start item_bytes payload place record_bytes records plan_bytes children_in children_of parent_index child_words value_of covers_of plan_of table_bytes image_of
empty_filtered = refl

-- "a" with 01 02 and one filter word gives 74: bits 6 and 16 of it are set
pub one_filtered : drop 24 (image_of plain 1 one 0)
    ≡ 1 ∷ 0 ∷ 0 ∷ 0x28 ∷ 1 ∷ 0 ∷ 0 ∷ 0 ∷ 0x40 ∷ 0 ∷ 0x01 ∷ 0 ∷ 0 ∷ 0 ∷ 0 ∷ 0 ∷ 0x06 ∷ 0xB6 ∷ 0x02 ∷ 0 ∷ 0xFF ∷ 0xFF ∷ 0xFF ∷ 0xFF ∷ 0x40 ∷ 0 ∷ 0 ∷ 0 ∷ 1 ∷ 0 ∷ 0x76 ∷ 0
    ∷ 0x48 ∷ 0 ∷ 0 ∷ 0 ∷ 0x4A ∷ 0 ∷ 0 ∷ 0 ∷ 0x61 ∷ 0 ∷ 0 ∷ 0 ∷ 0 ∷ 0 ∷ 0 ∷ 0 ∷ 1 ∷ 2 ∷ []
unfolding none one two pick copies spelled hash_by hash_from aligned precedes entry_at is_child fragment_at members_below rows_of insert_key sort_keys key_order hashes_of bucket_of run runs_below by_bucket bucket_start by_index item_of index_in laid_index bit_put words_of with_hash filter_word chunk_size value_start item_bytes payload place record_bytes records plan_bytes children_in children_of parent_index child_words value_of covers_of plan_of table_bytes image_of
one_filtered = refl

-- "a/c", then "a/b": the container's children stand by arrival, not by name
unfoldable pub three : State
three =
    rows_of (entry 0 (97 ∷ 47 ∷ []) Content.container no_item ∷ entry 0 (97 ∷ 47 ∷ 99 ∷ []) (Content.bytes []) 0
    ∷ entry 0 (97 ∷ 47 ∷ 98 ∷ []) (Content.bytes []) 0 ∷ [])

pub by_arrival : children_of (three 0) 0 ≡ 1 ∷ 2 ∷ []
unfolding three pick precedes entry_at members_below rows_of insert_key sort_keys key_order children_in children_of
by_arrival = refl
