-- A numbered table: the array that a write lays from. It holds the tables by number, and each table's items in the order in which they are laid;
-- below stand the bytes that it means. In words:
--   2t, 2t + 1     table t (64 of them): its first slot, and its count of items, which stand in the slots behind one another
--   128 + 8s       slot s (1,024 of them): hash, parent's laid index (`no_item`: none), fragment start and size in the arena, kind,
--                  then by kind: value start in the arena, guest, or first of its child words; value length, nothing, or count of its child words;
--                  and the word of bucket (s - first slot)
--   8320 + j       child words (1,024 of them): the laid indices of the children, container by container
use Rattle.std.specs.Prelude.{ℕ, zero, suc, ◌+◌, ◌*◌, ◌≤◌, ◌<◌, ◌^◌, ◌≡◌, List, [], ◌++◌, eqb, length, get_or}
use Rattle.words.specs.Choice.{pick}
use Rattle.words.specs.Store.{part, zeros}
use Rattle.layout.specs.Limits.{most_items, most_tables, deepest}
use Rattle.layout.specs.Sizes.{header_size, chunk_size}
use Rattle.layout.specs.Kind.{value_kind, table_kind}
use Rattle.image.specs.Plan.{Plan, words_of, plan_bytes}

-- the words of a table
abbrev pub head_words : ℕ
head_words = 2

abbrev pub slots_from : ℕ
slots_from = head_words * most_tables

-- the words of a slot
abbrev pub slot_size : ℕ
slot_size = 8

abbrev pub children_from : ℕ
children_from = slots_from + slot_size * most_items

abbrev pub numbered_size : ℕ
numbered_size = children_from + most_items

module _ (numbered : List ℕ) where
  unfoldable pub first_slot : ℕ → ℕ
  first_slot t = get_or numbered (head_words * t) 0

  unfoldable pub slot_count : ℕ → ℕ
  slot_count t = get_or numbered (head_words * t + 1) 0

  -- word `which` of slot s
  unfoldable pub slot_word : ℕ → ℕ → ℕ
  slot_word s which = get_or numbered (slots_from + slot_size * s + which) 0

  -- the eight by name, as src/numbered.rt has them; what 5 and 6 say goes by kind
  abbrev pub slot_hash : ℕ → ℕ
  slot_hash s = slot_word s 0

  abbrev pub slot_parent : ℕ → ℕ
  slot_parent s = slot_word s 1

  abbrev pub slot_fragment : ℕ → ℕ
  slot_fragment s = slot_word s 2

  abbrev pub slot_fragment_size : ℕ → ℕ
  slot_fragment_size s = slot_word s 3

  abbrev pub slot_kind : ℕ → ℕ
  slot_kind s = slot_word s 4

  abbrev pub slot_value_word : ℕ → ℕ
  slot_value_word s = slot_word s 5

  abbrev pub slot_value_size : ℕ → ℕ
  slot_value_size s = slot_word s 6

  abbrev pub slot_bucket : ℕ → ℕ
  slot_bucket s = slot_word s 7

  unfoldable pub child_word : ℕ → ℕ
  child_word j = get_or numbered (children_from + j) 0

-- by kind: for a value, for a nested table, for a container
unfoldable pub by_kind : {A : Type 0} → ℕ → A → A → A → A
by_kind kind value table container = pick (eqb kind value_kind) value (pick (eqb kind table_kind) table container)

-- the length that the value pointer of slot s covers, with so many filter words in every table: of a nested table the table chunk only
unfoldable pub slot_cover : ℕ → List ℕ → ℕ → ℕ
slot_cover filter numbered s =
    by_kind (slot_kind numbered s) (slot_value_size numbered s) (chunk_size filter (slot_count numbered (slot_value_word numbered s))) (4 * slot_value_size numbered s)

module _ (inner : ℕ → ℕ → List ℕ) (numbered arena : List ℕ) where
  -- what slot s holds, if it starts at an offset: a value's bytes, a nested table with all its chunks, or the children's indices
  unfoldable pub slot_value : ℕ → ℕ → List ℕ
  slot_value s at =
      by_kind (slot_kind numbered s) (part arena (slot_value_word numbered s) (slot_value_size numbered s)) (inner (slot_value_word numbered s) at)
      (words_of (λ j. child_word numbered (slot_value_word numbered s + j)) (slot_value_size numbered s))

  -- table t, index by index, with so many filter words
  unfoldable pub numbered_plan : ℕ → ℕ → Plan
  numbered_plan filter t = record {
    count = slot_count numbered t;
    filter = filter;
    first = λ b. slot_bucket numbered (first_slot numbered t + b);
    hash = λ k. slot_hash numbered (first_slot numbered t + k);
    parent = λ k. slot_parent numbered (first_slot numbered t + k);
    fragment = λ k. part arena (slot_fragment numbered (first_slot numbered t + k)) (slot_fragment_size numbered (first_slot numbered t + k));
    kind = λ k. slot_kind numbered (first_slot numbered t + k);
    align = λ k. by_kind (slot_kind numbered (first_slot numbered t + k)) 8 4 4;
    value = λ k at. slot_value (first_slot numbered t + k) at;
    covers = λ k. slot_cover filter numbered (first_slot numbered t + k);
  }

-- table t at `at`, with all its chunks; nested tables as deep as d goes
unfoldable pub numbered_bytes : ℕ → List ℕ → List ℕ → ℕ → ℕ → ℕ → List ℕ
numbered_bytes filter numbered arena zero t at = []
numbered_bytes filter numbered arena (suc d) t at = plan_bytes (numbered_plan (λ u start. numbered_bytes filter numbered arena d u start) numbered arena filter t) at

-- the whole image: zeros for the header, then the root table
unfoldable pub numbered_image : ℕ → List ℕ → List ℕ → ℕ → List ℕ
numbered_image filter numbered arena root = zeros header_size ++ numbered_bytes filter numbered arena deepest root header_size

-- ---- a numbered table that can be laid: every part lies where it should, and every word fits its field

pub record SlotFits (numbered arena : List ℕ) (s : ℕ) : Type 0 where
  pub hash : slot_hash numbered s < 2 ^ 32
  pub parent : slot_parent numbered s < 2 ^ 32
  pub fragment : slot_fragment numbered s + slot_fragment_size numbered s ≤ length arena
  pub size : slot_fragment_size numbered s < 65536
  pub kind : slot_kind numbered s < 256
  pub bucket : slot_bucket numbered s < 2 ^ 32
  pub value : slot_kind numbered s ≡ value_kind → slot_value_word numbered s + slot_value_size numbered s ≤ length arena
  pub guest : slot_kind numbered s ≡ table_kind → slot_value_word numbered s < most_tables
  pub children : (slot_kind numbered s ≡ value_kind → ⊥) → (slot_kind numbered s ≡ table_kind → ⊥) → slot_value_word numbered s + slot_value_size numbered s ≤ most_items

pub record NumberedFits (numbered arena : List ℕ) : Type 0 where
  pub long : length numbered ≡ numbered_size
  pub tables : (t : ℕ) → t < most_tables → first_slot numbered t + slot_count numbered t ≤ most_items
  pub slots : (s : ℕ) → s < most_items → SlotFits numbered arena s
  pub children : (j : ℕ) → j < most_items → child_word numbered j < 2 ^ 32
