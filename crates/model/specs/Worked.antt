-- Inserts by hand: the definitions compute what document 01 says of "a/b" and of a container that is replaced.
use Rattle.std.specs.Prelude.{ℕ, ◌≡◌, refl, false, List, [], ◌∷◌, Ok, Err, Some, None, Result}
use Rattle.words.specs.Choice.{pick}
use Rattle.key_order.specs.Compare.{same_bytes}
use Rattle.text.specs.Utf8.{between, tail, is_two, starts_three, starts_four, first_of, sequence_len, step_len, one_more, good_from, first_bad, is_utf8}
use Rattle.key_order.specs.Prefix.{ends_from, prefixes}
use Rattle.layout.specs.declared.kind.Kind.{Kind}
use Rattle.layout.specs.declared.refusal.Refusal.{Refusal}
use Rattle.layout.specs.Item.{no_item}
use Rattle.model.specs.Table.{Content, entry_at}
use Rattle.model.specs.Walk.{entry, find_key, put_key, walk, key_room}
use Rattle.model.specs.Builder.{Builder, Reply, result, fresh, standing_at, free_standing, separator_of, new_table, news, used_after, counted, at_walked, put, keyed, insert_value}

-- a builder with an arena of 8 bytes and one table, whose separator is "/"
unfoldable pub start : Builder
start = (new_table (fresh 8) (47 ∷ [])).after

-- "a/b" with 07 makes the container "a/" and then its child: room for two bytes, three and one
pub made : insert_value start 0 (97 ∷ 47 ∷ 98 ∷ []) (7 ∷ [])
    ≡ result (Ok None) (record {
      room = 8;
      used = 6;
      tables = record { separator = 47; placed = false } ∷ [];
      items = entry 0 (97 ∷ 47 ∷ []) Content.container no_item ∷ entry 0 (97 ∷ 47 ∷ 98 ∷ []) (Content.bytes (7 ∷ [])) 0 ∷ [];
    })
unfolding start fresh insert_value new_table separator_of standing_at free_standing keyed put at_walked counted news used_after key_room walk put_key find_key entry_at same_bytes prefixes ends_from pick is_utf8 first_bad good_from one_more step_len sequence_len first_of is_two starts_three starts_four tail between
made = refl

-- the second insert under the key says what it replaced, makes no item, and its value alone needs room
pub replaced : insert_value (insert_value start 0 (97 ∷ 47 ∷ 98 ∷ []) (7 ∷ [])).after 0 (97 ∷ 47 ∷ 98 ∷ []) (8 ∷ 9 ∷ [])
    ≡ result (Ok (Some Kind.Value)) (record {
      room = 8;
      used = 8;
      tables = record { separator = 47; placed = false } ∷ [];
      items = entry 0 (97 ∷ 47 ∷ []) Content.container no_item ∷ entry 0 (97 ∷ 47 ∷ 98 ∷ []) (Content.bytes (8 ∷ 9 ∷ [])) 0 ∷ [];
    })
unfolding start fresh insert_value new_table separator_of standing_at free_standing keyed put at_walked counted news used_after key_room walk put_key find_key entry_at same_bytes prefixes ends_from pick is_utf8 first_bad good_from one_more step_len sequence_len first_of is_two starts_three starts_four tail between
replaced = refl

-- one byte more does not fit (23); and once the container is a value, inserts below it are refused (21)
pub full : (insert_value start 0 (97 ∷ 47 ∷ 98 ∷ []) (1 ∷ 2 ∷ 3 ∷ 4 ∷ [])).answer ≡ Err Refusal.ArenaFull
unfolding start fresh insert_value new_table separator_of standing_at free_standing keyed put at_walked counted news used_after key_room walk put_key find_key entry_at same_bytes prefixes ends_from pick is_utf8 first_bad good_from one_more step_len sequence_len first_of is_two starts_three starts_four tail between
full = refl

pub below : (insert_value (insert_value (insert_value start 0 (97 ∷ 47 ∷ 98 ∷ []) []).after 0 (97 ∷ 47 ∷ []) []).after 0 (97 ∷ 47 ∷ 99 ∷ []) []
    ).answer ≡ Err Refusal.NotContainer
unfolding start fresh insert_value new_table separator_of standing_at free_standing keyed put at_walked counted news used_after key_room walk put_key find_key entry_at same_bytes prefixes ends_from pick is_utf8 first_bad good_from one_more step_len sequence_len first_of is_two starts_three starts_four tail between
below = refl

-- ---- separators: none, 1 and 127 are taken; 0, 128 and two bytes are refused (28)

-- a builder's first table
abbrev pub first_table : List ℕ → Reply (Result ℕ Refusal)
first_table separator = new_table (fresh 8) separator

abbrev pub with_table : ℕ → Reply (Result ℕ Refusal)
with_table separator = result (Ok 0) (record { room = 8; used = 0; tables = record { separator = separator; placed = false } ∷ []; items = [] })

abbrev pub refused_table : Reply (Result ℕ Refusal)
refused_table = result (Err Refusal.SeparatorOutside) (fresh 8)

-- no byte is 256, so that no key is parted
pub separators_taken : (first_table [] ≡ with_table 256) × (first_table (1 ∷ []) ≡ with_table 1) × (first_table (127 ∷ []) ≡ with_table 127)
unfolding new_table separator_of pick
separators_taken = (refl, refl, refl)

pub separators_refused : (first_table (0 ∷ []) ≡ refused_table) × (first_table (128 ∷ []) ≡ refused_table) × (first_table (47 ∷ 47 ∷ []) ≡ refused_table)
unfolding new_table separator_of pick
separators_refused = (refl, refl, refl)
