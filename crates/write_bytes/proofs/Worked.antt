-- Numbered tables that give images of document 01, 'Worked numbers', and a nested table, byte by byte.
use Prim.Native.Nat.{ℕ}
use mathlib.Core.Path.{◌≡◌, refl}
use mathlib.Core.List.{List, [], ◌∷◌, ◌++◌}
use lib.ListN.{drop}
use Rattle.words.specs.Choice.{pick}
use Rattle.words.specs.Store.{zeros, copies}
use Rattle.words.specs.Field.{spelled}
use Rattle.words.specs.Align.{aligned}
use Rattle.layout.specs.Sizes.{chunk_size}
use Rattle.image.specs.Plan.{words_of, value_start, item_bytes, payload, place, record_bytes, records, plan_bytes}
use Rattle.write_parts.specs.Numbered.{first_slot, slot_count, slot_word, child_word, by_kind, slot_value, numbered_plan, numbered_bytes, numbered_image, slot_cover}

-- "a/bt", 1, 2, 7
abbrev arena : List ℕ
arena = 97 ∷ 47 ∷ 98 ∷ 116 ∷ 1 ∷ 2 ∷ 7 ∷ []

-- table 0 is "a" with 01 02; table 1 is "a/b" with 07; table 2 has table 0 under "t", and "a" with 01 02
abbrev numbered : List ℕ
numbered =
    (0 ∷ 1 ∷ 1 ∷ 2 ∷ 3 ∷ 2 ∷ []) ++ (zeros 122
    ++ (177670 ∷ 4294967295 ∷ 0 ∷ 1 ∷ 118 ∷ 4 ∷ 2 ∷ 0
    ∷ 193484279 ∷ 1 ∷ 2 ∷ 1 ∷ 118 ∷ 6 ∷ 1 ∷ 0
    ∷ 5863157 ∷ 4294967295 ∷ 0 ∷ 2 ∷ 76 ∷ 0 ∷ 1 ∷ 0
    ∷ 177689 ∷ 4294967295 ∷ 3 ∷ 1 ∷ 72 ∷ 0 ∷ 0 ∷ 0
    ∷ 177670 ∷ 4294967295 ∷ 0 ∷ 1 ∷ 118 ∷ 4 ∷ 2 ∷ 1 ∷ []))

pub one-image : drop 24 (numbered_image 0 numbered arena 0)
    ≡ 0 ∷ 0 ∷ 0 ∷ 40 ∷ 1 ∷ 0 ∷ 0 ∷ 0 ∷ 0 ∷ 0 ∷ 0 ∷ 0 ∷ 6 ∷ 182 ∷ 2 ∷ 0 ∷ 255 ∷ 255 ∷ 255 ∷ 255 ∷ 60 ∷ 0 ∷ 0 ∷ 0
    ∷ 1 ∷ 0 ∷ 118 ∷ 0 ∷ 64 ∷ 0 ∷ 0 ∷ 0 ∷ 66 ∷ 0 ∷ 0 ∷ 0 ∷ 97 ∷ 0 ∷ 0 ∷ 0 ∷ 1 ∷ 2 ∷ []
unfolding pick copies spelled aligned words_of chunk_size value_start item_bytes payload place record_bytes records plan_bytes first_slot slot_count slot_word child_word by_kind slot_value slot_cover numbered_plan numbered_bytes numbered_image
one-image = refl

pub two-image : drop 24 (numbered_image 0 numbered arena 1)
    ≡ 0 ∷ 0 ∷ 0 ∷ 40 ∷ 2 ∷ 0 ∷ 0 ∷ 0 ∷ 0 ∷ 0 ∷ 0 ∷ 0 ∷ 0 ∷ 0 ∷ 0 ∷ 0 ∷ 247 ∷ 85 ∷ 136 ∷ 11 ∷ 1 ∷ 0 ∷ 0 ∷ 0
    ∷ 88 ∷ 0 ∷ 0 ∷ 0 ∷ 1 ∷ 0 ∷ 118 ∷ 0 ∷ 96 ∷ 0 ∷ 0 ∷ 0 ∷ 97 ∷ 0 ∷ 0 ∷ 0 ∷ 245 ∷ 118 ∷ 89 ∷ 0 ∷ 255 ∷ 255 ∷ 255 ∷ 255
    ∷ 97 ∷ 0 ∷ 0 ∷ 0 ∷ 2 ∷ 0 ∷ 76 ∷ 0 ∷ 100 ∷ 0 ∷ 0 ∷ 0 ∷ 104 ∷ 0 ∷ 0 ∷ 0 ∷ 98 ∷ 0 ∷ 0 ∷ 0 ∷ 0 ∷ 0 ∷ 0 ∷ 0
    ∷ 7 ∷ 97 ∷ 47 ∷ 0 ∷ 0 ∷ 0 ∷ 0 ∷ 0 ∷ []
unfolding pick copies spelled aligned words_of chunk_size value_start item_bytes payload place record_bytes records plan_bytes first_slot slot_count slot_word child_word by_kind slot_value slot_cover numbered_plan numbered_bytes numbered_image
two-image = refl

-- the guest starts at 92 and its pointer covers 36 bytes; its value starts at 136, a multiple of 8 from the file's start and not from 92
pub nested-image : drop 24 (numbered_image 0 numbered arena 2)
    ≡ 0 ∷ 0 ∷ 0 ∷ 40 ∷ 2 ∷ 0 ∷ 0 ∷ 0 ∷ 0 ∷ 0 ∷ 0 ∷ 0 ∷ 1 ∷ 0 ∷ 0 ∷ 0 ∷ 25 ∷ 182 ∷ 2 ∷ 0 ∷ 255 ∷ 255 ∷ 255 ∷ 255
    ∷ 88 ∷ 0 ∷ 0 ∷ 0 ∷ 1 ∷ 0 ∷ 72 ∷ 0 ∷ 92 ∷ 0 ∷ 0 ∷ 0 ∷ 128 ∷ 0 ∷ 0 ∷ 0 ∷ 6 ∷ 182 ∷ 2 ∷ 0 ∷ 255 ∷ 255 ∷ 255 ∷ 255
    ∷ 138 ∷ 0 ∷ 0 ∷ 0 ∷ 1 ∷ 0 ∷ 118 ∷ 0 ∷ 144 ∷ 0 ∷ 0 ∷ 0 ∷ 146 ∷ 0 ∷ 0 ∷ 0 ∷ 116 ∷ 0 ∷ 0 ∷ 0 ∷ 0 ∷ 0 ∷ 0 ∷ 40
    ∷ 1 ∷ 0 ∷ 0 ∷ 0 ∷ 0 ∷ 0 ∷ 0 ∷ 0 ∷ 6 ∷ 182 ∷ 2 ∷ 0 ∷ 255 ∷ 255 ∷ 255 ∷ 255 ∷ 128 ∷ 0 ∷ 0 ∷ 0 ∷ 1 ∷ 0 ∷ 118 ∷ 0
    ∷ 136 ∷ 0 ∷ 0 ∷ 0 ∷ 138 ∷ 0 ∷ 0 ∷ 0 ∷ 97 ∷ 0 ∷ 0 ∷ 0 ∷ 0 ∷ 0 ∷ 0 ∷ 0 ∷ 1 ∷ 2 ∷ 97 ∷ 0 ∷ 0 ∷ 0 ∷ 0 ∷ 0
    ∷ 1 ∷ 2 ∷ []
unfolding pick copies spelled aligned words_of chunk_size value_start item_bytes payload place record_bytes records plan_bytes first_slot slot_count slot_word child_word by_kind slot_value slot_cover numbered_plan numbered_bytes numbered_image
nested-image = refl
