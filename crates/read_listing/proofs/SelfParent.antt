-- The file of 60 bytes whose one item has an empty name and has itself as parent: it opens, listing it is refused with 11, and looking up
-- its name answers 12.
use Prim.Native.Nat.{ℕ}
use mathlib.Core.Path.{◌≡◌, refl}
use mathlib.Core.List.{List, [], ◌∷◌, ◌++◌}
use Rattle.words.specs.Choice.{pick}
use Rattle.words.specs.Store.{zeros, copies}
use Rattle.words.specs.Field.{field}
use Rattle.words.specs.Field as fields
use Rattle.words.specs.Bits.{bloom_count}
use Rattle.key_hash.specs.Hash.{hash_by, hash_from}
use Rattle.text.specs.Utf8.{is_utf8, first_bad, good_from}
use Rattle.layout.specs.Pointer.{open_pointer}
use Rattle.layout.specs.Table.{table_of, table_in, open_table}
use Rattle.layout.specs.Item.{item_at}
use Rattle.layout.specs.Answer.{opened_number}
use Rattle.read_chain.specs.Chain.{fragment_of, parent_of, after_pointer, climb_from, append, join_step, key_of, names}
use Rattle.read_find.specs.Find.{rust, bloom_passes, bucket_word, run_of, item_matches, first_from, first_of, find_item}
use Rattle.read.specs.Lookup.{at_found, lookup_in, at_opened, lookup_item, at_item, lookup_value}
use Rattle.read_listing.specs.Listing.{key_in, key_opened, key_at, listed}
use Rattle.read.specs.Answer.{looked_number}
use Rattle.read_listing.specs.Answer.{listed_number}

-- no bloom words, one bucket, one item: hash 5381, parent 0, key of size 0 at 60, kind 'v'
unfoldable pub self_parent : List ℕ
self_parent =
    zeros 24
    ++ (0 ∷ 0 ∷ 0 ∷ 40 ∷ 1 ∷ 0 ∷ 0 ∷ 0 ∷ 0 ∷ 0 ∷ 0 ∷ 0 ∷ [])
    ++ (5 ∷ 21 ∷ 0 ∷ 0 ∷ 0 ∷ 0 ∷ 0 ∷ 0 ∷ 60 ∷ 0 ∷ 0 ∷ 0 ∷ 0 ∷ 0 ∷ 118 ∷ 0 ∷ 0 ∷ 0 ∷ 0 ∷ 0 ∷ 0 ∷ 0 ∷ 0 ∷ 0 ∷ [])

pub self_parent_opens : opened_number (open_table self_parent 24 60) ≡ 0
unfolding self_parent copies open_table open_pointer table_in table_of bloom_count field fields.little_endian opened_number pick
self_parent_opens = refl

pub self_parent_11 : listed_number (listed (key_at self_parent 24 60 0) 16 0) ≡ 11
unfolding self_parent copies open_table open_pointer table_in table_of bloom_count field fields.little_endian pick key_at key_opened key_in key_of join_step append climb_from after_pointer parent_of fragment_of is_utf8 first_bad good_from item_at listed listed_number
self_parent_11 = refl

pub self_parent_12 : looked_number (lookup_value rust self_parent 24 60 []) ≡ 12
unfolding self_parent copies open_table open_pointer table_in table_of bloom_count field fields.little_endian pick key_of join_step append climb_from after_pointer parent_of fragment_of is_utf8 first_bad good_from item_at names hash_by hash_from bloom_passes bucket_word run_of item_matches first_from first_of find_item at_found lookup_in at_opened lookup_item at_item lookup_value looked_number
self_parent_12 = refl
