-- The forms differ. The image of the key C3 A9, which is 'é', with the value 01 02 has 66 bytes; in the base form the hash at 36 is 11 84 59 00, in the signed
-- form 11 62 59 00, and all else is equal. Read in its own form the key is found and the table is sound; in the other the key is not found, and rule 2 is broken.
use Rattle.std.specs.Prelude.{Ok}
use Prim.Native.Nat.{ℕ}
use mathlib.Core.Path.{◌≡◌, refl}
use mathlib.Core.List.{List, [], ◌∷◌, ◌++◌}
use Rattle.words.specs.Choice.{pick}
use Rattle.words.specs.Field.{field, spelled}
use Rattle.words.specs.Field as fields
use Rattle.words.specs.Align.{aligned}
use Rattle.words.specs.Bits.{bloom_count}
use Rattle.key_hash.specs.Hash.{hash_from, hash_by, plain, signed}
use Rattle.words.specs.Store.{copies}
use Rattle.key_order.specs.Compare.{same_bytes}
use Rattle.key_order.specs.Order.{precedes}
use Rattle.text.specs.Utf8.{between, tail, is_two, starts_three, starts_four, first_of, sequence_len, step_len, one_more, good_from, first_bad, is_utf8}
use Rattle.layout.specs.Pointer.{open_pointer}
use Rattle.layout.specs.Table.{table_of, table_in, open_table}
use Rattle.layout.specs.Item.{no_item, item_at}
use Rattle.layout.specs.Sizes.{chunk_size}
use Rattle.read_chain.specs.Chain.{fragment_of, parent_of, after_pointer, climb_from, append, join_step, key_of, names}
use Rattle.read_find.specs.Find as find
use Rattle.read_find.specs.Find.{rust, bloom_passes, bucket_word, run_of, item_matches, first_from, find_item}
use Rattle.read_listing.specs.Forms.{glib}
use Rattle.read.specs.Lookup.{at_found, lookup_in, at_opened, lookup_item, at_item, at_pointer, lookup_value}
use Rattle.read.specs.Lookup as lookup
use Rattle.read.specs.Answer.{looked_number}
use Rattle.check_rules.specs.declared.checked.Checked.{Checked}
use Rattle.check_rules.specs.Rules.{is_joined, key_lists, index_of, sought_at, is_at, key_finds, is_inside, value_opens, children_good, parent_good, parent_keeps, broken_rule, first_broken, explained, check_in, check_opened, check_table}
use Rattle.model.specs.Table.{Content, State, entry_at, members_below, rows_of, is_child, fragment_at}
use Rattle.model.specs.Walk.{entry}
use Rattle.image.specs.Index.{insert_key, sort_keys, key_order, hashes_of, bucket_of, run, runs_below, by_bucket, bucket_start, by_index, item_of, index_in, laid_index}
use Rattle.image.specs.Plan.{words_of, value_start, item_bytes, payload, place, record_bytes, records, plan_bytes}
use Rattle.image.specs.Image.{children_in, children_of, parent_index, child_words, value_of, covers_of, plan_of, table_bytes, image_of}

-- the file, by the second byte of the hash
unfoldable pub accent_file : ℕ → List ℕ
accent_file second =
    (0 ∷ 0 ∷ 0 ∷ 0 ∷ 0 ∷ 0 ∷ 0 ∷ 0 ∷ 0 ∷ 0 ∷ 0 ∷ 0 ∷ 0 ∷ 0 ∷ 0 ∷ 0 ∷ 0 ∷ 0 ∷ 0 ∷ 0 ∷ 0 ∷ 0 ∷ 0 ∷ 0 ∷ [])
    ++ (0 ∷ 0 ∷ 0 ∷ 0x28 ∷ 1 ∷ 0 ∷ 0 ∷ 0 ∷ 0 ∷ 0 ∷ 0 ∷ 0 ∷ [])
    ++ (0x11 ∷ second ∷ 0x59 ∷ 0 ∷ 0xFF ∷ 0xFF ∷ 0xFF ∷ 0xFF ∷ 0x3C ∷ 0 ∷ 0 ∷ 0 ∷ 2 ∷ 0 ∷ 0x76 ∷ 0 ∷ 0x40 ∷ 0 ∷ 0 ∷ 0 ∷ 0x42 ∷ 0 ∷ 0 ∷ 0 ∷ [])
    ++ (0xC3 ∷ 0xA9 ∷ 0 ∷ 0 ∷ 1 ∷ 2 ∷ [])

unfoldable pub accent : State
accent = rows_of (entry 0 (0xC3 ∷ 0xA9 ∷ []) (Content.bytes (1 ∷ 2 ∷ [])) no_item ∷ [])

pub laid_plain : image_of plain 0 accent 0 ≡ accent_file 0x84
unfolding accent accent_file pick copies spelled hash_by hash_from aligned precedes entry_at is_child fragment_at members_below rows_of insert_key sort_keys key_order hashes_of bucket_of run runs_below by_bucket bucket_start by_index item_of index_in laid_index words_of chunk_size value_start item_bytes payload place record_bytes records plan_bytes children_in children_of parent_index child_words value_of covers_of plan_of table_bytes image_of
laid_plain = refl

pub laid_signed : image_of signed 0 accent 0 ≡ accent_file 0x62
unfolding accent accent_file signed pick copies spelled hash_by hash_from aligned precedes entry_at is_child fragment_at members_below rows_of insert_key sort_keys key_order hashes_of bucket_of run runs_below by_bucket bucket_start by_index item_of index_in laid_index words_of chunk_size value_start item_bytes payload place record_bytes records plan_bytes children_in children_of parent_index child_words value_of covers_of plan_of table_bytes image_of
laid_signed = refl

pub found : (lookup_value rust (accent_file 0x84) 24 60 (0xC3 ∷ 0xA9 ∷ []) ≡ Ok (record { start = 64; end = 66 })) × (lookup_value glib (accent_file 0x62) 24 60 (0xC3 ∷ 0xA9 ∷ []) ≡ Ok (record { start = 64; end = 66 }))
unfolding accent_file signed open_table open_pointer table_in table_of bloom_count field fields.little_endian pick key_of join_step append climb_from after_pointer parent_of fragment_of is_utf8 first_bad good_from one_more step_len sequence_len first_of is_two starts_three starts_four tail between same_bytes item_at names hash_by hash_from bloom_passes bucket_word run_of item_matches first_from find.first_of find_item at_found lookup_in at_opened lookup_item at_item at_pointer lookup.value_of lookup_value
found = (refl, refl)

pub not_found : (looked_number (lookup_value glib (accent_file 0x84) 24 60 (0xC3 ∷ 0xA9 ∷ [])) ≡ 12) × (looked_number (lookup_value rust (accent_file 0x62) 24 60 (0xC3 ∷ 0xA9 ∷ [])) ≡ 12)
unfolding accent_file signed open_table open_pointer table_in table_of bloom_count field fields.little_endian pick key_of join_step append climb_from after_pointer parent_of fragment_of is_utf8 first_bad good_from one_more step_len sequence_len first_of is_two starts_three starts_four tail between same_bytes item_at names hash_by hash_from bloom_passes bucket_word run_of item_matches first_from find.first_of find_item at_found lookup_in at_opened lookup_item at_item at_pointer lookup.value_of lookup_value looked_number
not_found = (refl, refl)

pub sound : (check_table rust (accent_file 0x84) 24 60 ≡ Checked.Sound) × (check_table glib (accent_file 0x62) 24 60 ≡ Checked.Sound)
unfolding accent_file signed open_table open_pointer table_in table_of bloom_count field fields.little_endian pick key_of join_step append climb_from after_pointer parent_of fragment_of is_utf8 first_bad good_from one_more step_len sequence_len first_of is_two starts_three starts_four tail between same_bytes item_at names hash_by hash_from bloom_passes bucket_word run_of item_matches first_from find.first_of find_item is_joined key_lists index_of sought_at is_at key_finds is_inside value_opens children_good parent_good parent_keeps broken_rule first_broken explained check_in check_opened check_table
sound = (refl, refl)

pub not_sound : (check_table glib (accent_file 0x84) 24 60 ≡ Checked.Broken 2 0) × (check_table rust (accent_file 0x62) 24 60 ≡ Checked.Broken 2 0)
unfolding accent_file signed open_table open_pointer table_in table_of bloom_count field fields.little_endian pick key_of join_step append climb_from after_pointer parent_of fragment_of is_utf8 first_bad good_from one_more step_len sequence_len first_of is_two starts_three starts_four tail between same_bytes item_at names hash_by hash_from bloom_passes bucket_word run_of item_matches first_from find.first_of find_item is_joined key_lists index_of sought_at is_at key_finds broken_rule first_broken explained check_in check_opened check_table
not_sound = (refl, refl)
