-- A file of 81 bytes with two filter words that differ: "A" has its bit in the second and is found; "a" has the same bit of the first, which is
-- not set, and is not found though its item is there.
use Rattle.std.specs.Prelude.{Ok}
use Prim.Native.Nat.{ℕ}
use mathlib.Core.Path.{◌≡◌, refl}
use mathlib.Core.List.{List, [], ◌∷◌, ◌++◌}
use Rattle.words.specs.Choice.{pick}
use Rattle.words.specs.Field.{field}
use Rattle.words.specs.Field as fields
use Rattle.words.specs.Bits.{bloom_count, bit_set}
use Rattle.key_hash.specs.Hash.{hash_by, hash_from}
use Rattle.key_order.specs.Compare.{same_bytes}
use Rattle.text.specs.Utf8.{between, tail, is_two, starts_three, starts_four, first_of, sequence_len, step_len, one_more, good_from, first_bad, is_utf8}
use Rattle.layout.specs.Pointer.{open_pointer}
use Rattle.layout.specs.Table.{table_of, table_in, open_table}
use Rattle.layout.specs.Item.{item_at}
use Rattle.read_chain.specs.Chain.{fragment_of, parent_of, after_pointer, climb_from, append, join_step, key_of, names}
use Rattle.read_find.specs.Find as find
use Rattle.read_find.specs.Find.{rust, bloom_passes, bucket_word, run_of, item_matches, first_from, find_item}
use Rattle.read.specs.Lookup.{at_found, lookup_in, at_opened, lookup_item, at_item, at_pointer, value_of, lookup_value}
use Rattle.read.specs.Answer.{looked_number}

-- two filter words, 128 and 64; one bucket; "a" (hash 177670) and "A" (hash 177638), values 72 to 73 and 80 to 81
unfoldable pub filtered : List ℕ
filtered =
    (2 ∷ 0 ∷ 0 ∷ 40 ∷ 1 ∷ 0 ∷ 0 ∷ 0 ∷ 128 ∷ 0 ∷ 0 ∷ 0 ∷ 64 ∷ 0 ∷ 0 ∷ 0 ∷ 0 ∷ 0 ∷ 0 ∷ 0 ∷ [])
    ++ (0x06 ∷ 0xB6 ∷ 0x02 ∷ 0 ∷ 255 ∷ 255 ∷ 255 ∷ 255 ∷ 68 ∷ 0 ∷ 0 ∷ 0 ∷ 1 ∷ 0 ∷ 118 ∷ 0 ∷ 72 ∷ 0 ∷ 0 ∷ 0 ∷ 73 ∷ 0 ∷ 0 ∷ 0 ∷ [])
    ++ (0xE6 ∷ 0xB5 ∷ 0x02 ∷ 0 ∷ 255 ∷ 255 ∷ 255 ∷ 255 ∷ 69 ∷ 0 ∷ 0 ∷ 0 ∷ 1 ∷ 0 ∷ 118 ∷ 0 ∷ 80 ∷ 0 ∷ 0 ∷ 0 ∷ 81 ∷ 0 ∷ 0 ∷ 0 ∷ [])
    ++ (97 ∷ 65 ∷ 0 ∷ 0 ∷ 1 ∷ 0 ∷ 0 ∷ 0 ∷ 0 ∷ 0 ∷ 0 ∷ 0 ∷ 2 ∷ [])

pub second_word : lookup_value rust filtered 0 68 (65 ∷ []) ≡ Ok (record { start = 80; end = 81 })
unfolding filtered open_table open_pointer table_in table_of bloom_count bit_set field fields.little_endian pick key_of join_step append climb_from after_pointer parent_of fragment_of is_utf8 first_bad good_from one_more step_len sequence_len first_of is_two starts_three starts_four tail between same_bytes item_at names hash_by hash_from bloom_passes bucket_word run_of item_matches first_from find.shift_of find.first_of find_item at_found lookup_in at_opened lookup_item at_item at_pointer value_of lookup_value
second_word = refl

pub first_word : looked_number (lookup_value rust filtered 0 68 (97 ∷ [])) ≡ 12
unfolding filtered open_table open_pointer table_in table_of bloom_count bit_set field fields.little_endian pick key_of join_step append climb_from after_pointer parent_of fragment_of is_utf8 first_bad good_from one_more step_len sequence_len first_of is_two starts_three starts_four tail between same_bytes item_at names hash_by hash_from bloom_passes bucket_word run_of item_matches first_from find.shift_of find.first_of find_item at_found lookup_in at_opened lookup_item at_item at_pointer value_of lookup_value looked_number
first_word = refl
