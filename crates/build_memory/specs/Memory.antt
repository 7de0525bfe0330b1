-- The lent memory of a builder: two buffers, the words and the arena. Where each word stands, the rules behind refusal 29 that every call
-- judges, and the fresh start.
--
--      words
--          0 +--------------------------------------------------------------------------------------------+
--            | 0 length of the words   1 length of the arena   2 tables   3 items   4 room used           |
--          8 +--------------------------------------------------------------------------------------------+
--            | 64 tables of 4 words:                                                                      |
--            |   0 separator (256: none)   1 placed (0: no)   2 height, once it is placed                 |
--        264 +--------------------------------------------------------------------------------------------+
--            | 1,024 heads: the last item made of each bucket (hash modulo 1,024), or the empty mark      |
--       1288 +--------------------------------------------------------------------------------------------+
--            | 1,024 items of 12 words:                                                                   |
--            |   0 table   1 hash   2 older: the item made before it in its bucket, or the empty mark     |
--            |   3 key start   4 key length   5 parent: its index plus 1 (0: none)                        |
--            |   6 kind ('v', 'H', 'L')   7 value start   8 value length   9 guest: the table it holds    |
--      13576 +--------------------------------------------------------------------------------------------+
--            | 1,024 links, which hold the empty mark between calls                                       |
--      14600 +--------------------------------------------------------------------------------------------+
--
--      arena
--          0 | key of item 0 | its value | key of item 1 | its value | .. | room used: all behind it is free
--
-- A word that is not named is unused. A value that replaces another is stored behind all that is there.
use Rattle.std.specs.Prelude.{ℕ, ◌+◌, ◌*◌, ◌≤◌, ◌≡◌, Bool, true, ◌&&◌, List, [], ◌∷◌, length, get_or, leb, eqb, Result, Ok, Err}
use Rattle.layout.specs.declared.refusal.Refusal.{Refusal}
use Rattle.words.specs.Choice.{pick}
use Rattle.words.specs.Store.{part, put_at, copies}
use Rattle.layout.specs.Item.{no_item}
use Rattle.layout.specs.declared.refusal.Refusal.TheVariants.{MemoryBroken}
use Rattle.layout.specs.Limits.{most_items, most_tables}

-- ---- where each word stands

abbrev pub tables_from : ℕ
tables_from = 8

abbrev pub table_size : ℕ
table_size = 4

abbrev pub heads_from : ℕ
heads_from = tables_from + table_size * most_tables

-- the buckets of the index, each with its head
abbrev pub buckets : ℕ
buckets = 1024

abbrev pub items_from : ℕ
items_from = heads_from + buckets

abbrev pub item_size : ℕ
item_size = 12

abbrev pub links_from : ℕ
links_from = items_from + item_size * most_items

abbrev pub links : ℕ
links = most_items

-- the least length of the words
abbrev pub least_words : ℕ
least_words = links_from + links

abbrev pub word : List ℕ → ℕ → ℕ
word ws i = get_or ws i 0

abbrev pub table_total : List ℕ → ℕ
table_total ws = word ws 2

abbrev pub item_total : List ℕ → ℕ
item_total ws = word ws 3

abbrev pub room_used : List ℕ → ℕ
room_used ws = word ws 4

abbrev pub table_at : ℕ → ℕ
table_at t = tables_from + table_size * t

abbrev pub head_at : ℕ → ℕ
head_at b = heads_from + b

abbrev pub item_at : ℕ → ℕ
item_at i = items_from + item_size * i

abbrev pub link_at : ℕ → ℕ
link_at j = links_from + j

-- ---- the words of a table and of an item

abbrev pub table_separator : List ℕ → ℕ → ℕ
table_separator ws t = word ws (table_at t + 0)

abbrev pub table_placed : List ℕ → ℕ → ℕ
table_placed ws t = word ws (table_at t + 1)

abbrev pub table_height : List ℕ → ℕ → ℕ
table_height ws t = word ws (table_at t + 2)

abbrev pub item_table : List ℕ → ℕ → ℕ
item_table ws i = word ws (item_at i + 0)

abbrev pub item_hash : List ℕ → ℕ → ℕ
item_hash ws i = word ws (item_at i + 1)

abbrev pub item_older : List ℕ → ℕ → ℕ
item_older ws i = word ws (item_at i + 2)

abbrev pub key_start : List ℕ → ℕ → ℕ
key_start ws i = word ws (item_at i + 3)

abbrev pub key_size : List ℕ → ℕ → ℕ
key_size ws i = word ws (item_at i + 4)

abbrev pub item_parent : List ℕ → ℕ → ℕ
item_parent ws i = word ws (item_at i + 5)

abbrev pub item_kind : List ℕ → ℕ → ℕ
item_kind ws i = word ws (item_at i + 6)

abbrev pub value_start : List ℕ → ℕ → ℕ
value_start ws i = word ws (item_at i + 7)

abbrev pub value_size : List ℕ → ℕ → ℕ
value_size ws i = word ws (item_at i + 8)

abbrev pub item_guest : List ℕ → ℕ → ℕ
item_guest ws i = word ws (item_at i + 9)

-- the key of an item, as many of its bytes as the arena has
unfoldable pub key_of : List ℕ → List ℕ → ℕ → List ℕ
key_of ws ar i = part ar (key_start ws i) (key_size ws i)

-- ---- the rules that every call judges

-- every test of the list holds
unfoldable pub all : List Bool → Bool
all [] = true
all (test ∷ tests) = test && all tests

-- the words are not too short; both lengths are those of the fresh start; tables and items are not too many; the room used is in the arena
abbrev pub rules : List ℕ → ℕ → List Bool
rules ws room =
    leb least_words (length ws)
    ∷ eqb (word ws 0) (length ws)
    ∷ eqb (word ws 1) room
    ∷ leb (table_total ws) most_tables
    ∷ leb (item_total ws) most_items
    ∷ leb (room_used ws) room
    ∷ []

unfoldable pub valid : List ℕ → ℕ → Bool
valid ws room = all (rules ws room)

-- the same rules as facts, for what comes after the judgement
pub record Valid (ws : List ℕ) (arena : ℕ) : Type 0 where
  pub long : least_words ≤ length ws
  pub words : word ws 0 ≡ length ws
  pub room : word ws 1 ≡ arena
  pub tables : table_total ws ≤ most_tables
  pub items : item_total ws ≤ most_items
  pub used : room_used ws ≤ arena

-- ---- what a call leaves: its answer, and the content of both buffers

pub record Memory : Type 0 where
  pub words : List ℕ
  pub arena : List ℕ

abbrev pub memory : List ℕ → List ℕ → Memory
memory ws ar = record { words = ws; arena = ar }

pub record Outcome (A : Type 0) : Type 0 where
  pub answer : A
  pub after : Memory

abbrev pub outcome : {A : Type 0} → A → Memory → Outcome A
outcome answer after = record { answer = answer; after = after }

-- ---- the fresh start

-- both lengths, no table, no item, no room used; every head and every link holds `no_item`
unfoldable pub fresh_words : List ℕ → ℕ → List ℕ
fresh_words ws room =
    put_at (put_at (put_at ws 0 (length ws ∷ room ∷ 0 ∷ 0 ∷ 0 ∷ [])) heads_from (copies buckets no_item)) links_from (copies links no_item)

-- 29 where the words are too short, else an empty builder, whatever the memory held
unfoldable pub fresh_start : List ℕ → List ℕ → Outcome (Result (Unit {0}) Refusal)
fresh_start ws ar =
    pick (leb least_words (length ws)) (outcome (Ok tt) (memory (fresh_words ws (length ar)) ar))
    (outcome (Err MemoryBroken) (memory ws ar))
