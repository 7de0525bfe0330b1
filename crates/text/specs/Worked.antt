-- The ranges of RFC 3629, section 4, from both sides: their first and last sequences, and the nearest that are none.
use Rattle.std.specs.Prelude.{ℕ, ◌≡◌, refl, Bool, true, false, List, [], ◌∷◌, map}
use Rattle.text.specs.Utf8.{between, tail, is_two, starts_three, starts_four, first_of, sequence_len, step_len, one_more, good_from, first_bad, is_utf8}

abbrev pub well_formed : List (List ℕ)
well_formed =
    -- one byte, two
    []
    ∷ (0x00 ∷ [])
    ∷ (0x7F ∷ [])
    ∷ (0xC2 ∷ 0x80 ∷ [])
    ∷ (0xDF ∷ 0xBF ∷ [])
    -- three
    ∷ (0xE0 ∷ 0xA0 ∷ 0x80 ∷ [])
    ∷ (0xE0 ∷ 0xBF ∷ 0xBF ∷ [])
    ∷ (0xE1 ∷ 0x80 ∷ 0x80 ∷ [])
    ∷ (0xEC ∷ 0xBF ∷ 0xBF ∷ [])
    ∷ (0xED ∷ 0x80 ∷ 0x80 ∷ [])
    ∷ (0xED ∷ 0x9F ∷ 0xBF ∷ [])
    ∷ (0xEE ∷ 0x80 ∷ 0x80 ∷ [])
    ∷ (0xEF ∷ 0xBF ∷ 0xBF ∷ [])
    -- four
    ∷ (0xF0 ∷ 0x90 ∷ 0x80 ∷ 0x80 ∷ [])
    ∷ (0xF0 ∷ 0xBF ∷ 0xBF ∷ 0xBF ∷ [])
    ∷ (0xF1 ∷ 0x80 ∷ 0x80 ∷ 0x80 ∷ [])
    ∷ (0xF3 ∷ 0xBF ∷ 0xBF ∷ 0xBF ∷ [])
    ∷ (0xF4 ∷ 0x80 ∷ 0x80 ∷ 0x80 ∷ [])
    ∷ (0xF4 ∷ 0x8F ∷ 0xBF ∷ 0xBF ∷ [])
    ∷ []

abbrev pub ill_formed : List (List ℕ)
ill_formed =
    -- a first byte that is none
    (0x80 ∷ [])
    ∷ (0xBF ∷ [])
    ∷ (0xC0 ∷ 0x80 ∷ [])
    ∷ (0xC1 ∷ 0xBF ∷ [])
    ∷ (0xF5 ∷ 0x80 ∷ 0x80 ∷ 0x80 ∷ [])
    ∷ (0xFF ∷ [])
    -- a second byte outside its range
    ∷ (0xC2 ∷ 0x7F ∷ [])
    ∷ (0xDF ∷ 0xC0 ∷ [])
    ∷ (0xE0 ∷ 0x9F ∷ 0xBF ∷ [])
    ∷ (0xE0 ∷ 0xC0 ∷ 0x80 ∷ [])
    ∷ (0xE1 ∷ 0x7F ∷ 0xBF ∷ [])
    ∷ (0xEC ∷ 0xC0 ∷ 0x80 ∷ [])
    ∷ (0xED ∷ 0x7F ∷ 0xBF ∷ [])
    ∷ (0xED ∷ 0xA0 ∷ 0x80 ∷ [])
    ∷ (0xEE ∷ 0x7F ∷ 0xBF ∷ [])
    ∷ (0xEF ∷ 0xC0 ∷ 0x80 ∷ [])
    ∷ (0xF0 ∷ 0x8F ∷ 0xBF ∷ 0xBF ∷ [])
    ∷ (0xF0 ∷ 0xC0 ∷ 0x80 ∷ 0x80 ∷ [])
    ∷ (0xF1 ∷ 0x7F ∷ 0xBF ∷ 0xBF ∷ [])
    ∷ (0xF3 ∷ 0xC0 ∷ 0x80 ∷ 0x80 ∷ [])
    ∷ (0xF4 ∷ 0x7F ∷ 0xBF ∷ 0xBF ∷ [])
    ∷ (0xF4 ∷ 0x90 ∷ 0x80 ∷ 0x80 ∷ [])
    -- a later byte outside its range
    ∷ (0xE1 ∷ 0x80 ∷ 0x7F ∷ [])
    ∷ (0xE1 ∷ 0x80 ∷ 0xC0 ∷ [])
    ∷ (0xF1 ∷ 0x80 ∷ 0x7F ∷ 0x80 ∷ [])
    ∷ (0xF1 ∷ 0x80 ∷ 0xC0 ∷ 0x80 ∷ [])
    ∷ (0xF1 ∷ 0x80 ∷ 0x80 ∷ 0x7F ∷ [])
    ∷ (0xF1 ∷ 0x80 ∷ 0x80 ∷ 0xC0 ∷ [])
    -- the end too early
    ∷ (0xC3 ∷ [])
    ∷ (0xE1 ∷ 0x80 ∷ [])
    ∷ (0xF1 ∷ 0x80 ∷ 0x80 ∷ [])
    ∷ []

abbrev pub All : Bool → List (List ℕ) → Type 0
All is texts = map is_utf8 texts ≡ map (λ (text : List ℕ). is) texts

pub all_allowed : All true well_formed
unfolding between tail is_two starts_three starts_four first_of sequence_len step_len one_more good_from first_bad is_utf8
all_allowed = refl

pub none_allowed : All false ill_formed
unfolding between tail is_two starts_three starts_four first_of sequence_len step_len one_more good_from first_bad is_utf8
none_allowed = refl

-- the offset of the first bad sequence is where it starts: "é", "a", and the half of an "é"
pub where_bad : first_bad (0xC3 ∷ 0xA9 ∷ 0x61 ∷ 0xC3 ∷ []) ≡ 3
unfolding between tail is_two starts_three starts_four first_of sequence_len step_len one_more good_from first_bad is_utf8
where_bad = refl

-- a Latin-1 "é" at the end, at the start, a cut character, a surrogate, a cut "🌍", an overlong zero, a byte that begins none
abbrev pub bad_texts : List (List ℕ)
bad_texts =
    (0x63 ∷ 0x61 ∷ 0x66 ∷ 0xE9 ∷ [])
    ∷ (0xE9 ∷ 0x74 ∷ 0xE9 ∷ [])
    ∷ (0x61 ∷ 0xC3 ∷ [])
    ∷ (0xED ∷ 0xA0 ∷ 0x80 ∷ [])
    ∷ (0xF0 ∷ 0x9F ∷ 0x8C ∷ [])
    ∷ (0x6F ∷ 0x6B ∷ 0xC0 ∷ 0x80 ∷ [])
    ∷ (0xC3 ∷ 0xA9 ∷ 0xFF ∷ [])
    ∷ []

pub where_each_bad : map first_bad bad_texts ≡ (3 ∷ 0 ∷ 1 ∷ 0 ∷ 0 ∷ 2 ∷ 2 ∷ [])
unfolding between tail is_two starts_three starts_four first_of sequence_len step_len one_more good_from first_bad is_utf8
where_each_bad = refl
