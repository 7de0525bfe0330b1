-- What is laid of one slot of a numbered table: its record, its fragment with the zeros behind it, its value.
use Rattle.std.specs.Prelude.{ℕ, ◌+◌, ◌-◌, ◌≤◌, ◌<◌, ◌^◌, ◌≡◌, List, [], ◌∷◌, ◌++◌, eqb, length}
use Rattle.words.specs.Choice.{pick}
use Rattle.words.specs.Store.{part, zeros}
use Rattle.words.specs.Field.{spelled}
use Rattle.words.specs.Align.{aligned}
use Rattle.image.specs.Plan.{word, words_of, first_word, filter_word}
use Rattle.layout.specs.Kind.{value_kind, table_kind}
use Rattle.layout.specs.Limits.{most_tables, most_items}
use Rattle.write_parts.specs.Numbered.{numbered_size, slot_count, slot_hash, slot_parent, slot_fragment, slot_fragment_size, slot_kind, slot_value_word, slot_value_size, child_word, by_kind, slot_cover, slot_value}

-- a table's first word and its count of buckets
unfoldable pub head_bytes : ℕ → ℕ → List ℕ
head_bytes filter count = word (first_word filter) ++ word count

-- the filter words of a table of so many items, the first of them in slot `first`
unfoldable pub slot_filter : List ℕ → ℕ → ℕ → ℕ → List ℕ
slot_filter numbered filter first count = words_of (λ k. filter_word (λ n. slot_hash numbered (first + n)) filter k count) filter

module _ (numbered : List ℕ) where
  -- where the value of slot s starts, if its key starts at `at`
  unfoldable pub slot_start : ℕ → ℕ → ℕ
  slot_start s at = aligned (at + slot_fragment_size numbered s) (by_kind (slot_kind numbered s) 8 4 4)

  -- its record, the key at `at`, the value at `start`, with so many filter words in every table
  unfoldable pub slot_record : ℕ → ℕ → ℕ → ℕ → List ℕ
  slot_record filter s at start =
      word (slot_hash numbered s) ++ (word (slot_parent numbered s) ++ (word at
      ++ ((spelled 2 (slot_fragment_size numbered s) ++ (slot_kind numbered s ∷ 0 ∷ [])) ++ (word start ++ word (start + slot_cover filter numbered s)))))

-- its fragment at `at`, and zeros up to the value at `start`
unfoldable pub slot_key : List ℕ → List ℕ → ℕ → ℕ → ℕ → List ℕ
slot_key numbered arena s at start = part arena (slot_fragment numbered s) (slot_fragment_size numbered s) ++ zeros (start - (at + slot_fragment_size numbered s))

-- its value, where that is no nested table: bytes, or the children's indices
unfoldable pub plain_value : List ℕ → List ℕ → ℕ → List ℕ
plain_value numbered arena s =
    pick (eqb (slot_kind numbered s) value_kind) (part arena (slot_value_word numbered s) (slot_value_size numbered s))
    (words_of (λ j. child_word numbered (slot_value_word numbered s + j)) (slot_value_size numbered s))

-- its fragment, zeros and value
unfoldable pub slot_item : (ℕ → ℕ → List ℕ) → List ℕ → List ℕ → ℕ → ℕ → List ℕ
slot_item inner numbered arena s at = slot_key numbered arena s at (slot_start numbered s at) ++ slot_value inner numbered arena s (slot_start numbered s at)

-- ---- what the functions over one slot ask

-- it is a slot of a whole numbered table
pub record SlotIn (numbered : List ℕ) (s : ℕ) : Type 0 where
  pub long : length numbered ≡ numbered_size
  pub inside : s < most_items

-- its guest is a table, and what its pointer covers can be counted
pub record CoverFits (numbered : List ℕ) (s : ℕ) : Type 0 where
  pub guest : slot_kind numbered s ≡ table_kind → slot_value_word numbered s < most_tables
  pub items : slot_kind numbered s ≡ table_kind → slot_count numbered (slot_value_word numbered s) ≤ most_items
  pub children : (slot_kind numbered s ≡ value_kind → ⊥) → (slot_kind numbered s ≡ table_kind → ⊥) → slot_value_size numbered s ≤ most_items

-- the words of its record fit their fields
pub record RecordFits (filter : ℕ) (numbered : List ℕ) (s at start : ℕ) : Type 0 where
  pub hash : slot_hash numbered s < 2 ^ 32
  pub parent : slot_parent numbered s < 2 ^ 32
  pub key : at < 2 ^ 32
  pub size : slot_fragment_size numbered s < 65536
  pub kind : slot_kind numbered s < 256
  pub stop : start + slot_cover filter numbered s < 2 ^ 32
