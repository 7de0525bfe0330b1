-- Fully valid memory: the rules behind refusal 29 that a write judges, besides those of every call. Memory that the fresh start and the builder's
-- calls wrote keeps them.
use Rattle.std.specs.Prelude.{ℕ, ◌+◌, ◌-◌, ◌<◌, ◌≡◌, Bool, ◌&&◌, ◌||◌, not, List, length, take, eqb, ltb, leb}
use Rattle.words.specs.Choice.{pick}
use Rattle.words.specs.Below.{all_below, some_below}
use Rattle.key_hash.specs.Hash.{hash_of}
use Rattle.key_order.specs.Compare.{same_bytes}
use Rattle.text.specs.Utf8.{is_utf8}
use Rattle.layout.specs.Kind.{kind_known, value_kind, table_kind}
use Rattle.layout.specs.Limits.{longest_key, most_tables, deepest}
use Rattle.layout.specs.Item.{no_item}
use Rattle.build_memory.specs.Memory.{word, links, link_at, table_total, item_total, room_used, table_placed, table_height, item_table, item_hash, key_start, key_size, item_parent, item_kind, value_start, value_size, item_guest, key_of, valid}
use Rattle.build_memory.specs.Find.{find_key}

-- ---- the ranges of an item

-- its table is one that there is
unfoldable pub table_known : List ℕ → ℕ → Bool
table_known ws i = ltb (item_table ws i) (table_total ws)

-- its key lies within the room used, and is not too long
unfoldable pub key_within : List ℕ → ℕ → Bool
key_within ws i = leb (key_start ws i + key_size ws i) (room_used ws)

unfoldable pub key_short : List ℕ → ℕ → Bool
key_short ws i = leb (key_size ws i) longest_key

-- its kind is known
unfoldable pub kind_valid : List ℕ → ℕ → Bool
kind_valid ws i = kind_known (item_kind ws i)

-- the value of a 'v' lies within the room used
unfoldable pub value_within : List ℕ → ℕ → Bool
value_within ws i = not (eqb (item_kind ws i) value_kind) || leb (value_start ws i + value_size ws i) (room_used ws)

unfoldable pub ranges_valid : List ℕ → ℕ → Bool
ranges_valid ws i = table_known ws i && (key_within ws i && (key_short ws i && (kind_valid ws i && value_within ws i)))

-- ---- its key

-- it is UTF-8
unfoldable pub key_utf8 : List ℕ → List ℕ → ℕ → Bool
key_utf8 ws ar i = is_utf8 (key_of ws ar i)

-- the hash word is its hash
unfoldable pub hash_valid : List ℕ → List ℕ → ℕ → Bool
hash_valid ws ar i = eqb (item_hash ws i) (hash_of (key_of ws ar i))

-- the search for it in its table answers this very item: no other item of the table has the same key
unfoldable pub key_found : List ℕ → List ℕ → ℕ → Bool
key_found ws ar i = eqb (find_key ws ar (item_table ws i) (key_of ws ar i)) i

unfoldable pub key_valid : List ℕ → List ℕ → ℕ → Bool
key_valid ws ar i = key_utf8 ws ar i && (hash_valid ws ar i && key_found ws ar i)

-- ---- its parent

-- a text starts with a shorter one
unfoldable pub begun_by : List ℕ → List ℕ → Bool
begun_by short key = ltb (length short) (length key) && same_bytes short (take (length short) key)

-- none; or an item made before it, of its table, whose key is shorter and which its key starts with
unfoldable pub parent_valid : List ℕ → List ℕ → ℕ → Bool
parent_valid ws ar i =
    eqb (item_parent ws i) 0
    || (leb (item_parent ws i) i
    && (eqb (item_table ws (item_parent ws i - 1)) (item_table ws i) && begun_by (key_of ws ar (item_parent ws i - 1)) (key_of ws ar i)))

-- ---- the table that an 'H' holds

-- what is held must be lower than this: the height of a table that is placed, else the greatest height
unfoldable pub height_limit : List ℕ → ℕ → ℕ
height_limit ws t = pick (eqb (table_placed ws t) 0) deepest (table_height ws t)

-- it is a table that there is, which is placed, of a height from 1 up and lower than its holder
unfoldable pub guest_placed : List ℕ → ℕ → ℕ → Bool
guest_placed ws t guest =
    ltb guest (table_total ws)
    && (not (eqb (table_placed ws guest) 0) && (leb 1 (table_height ws guest) && ltb (table_height ws guest) (height_limit ws t)))

unfoldable pub guest_valid : List ℕ → ℕ → Bool
guest_valid ws i = not (eqb (item_kind ws i) table_kind) || guest_placed ws (item_table ws i) (item_guest ws i)

-- item i holds table t
unfoldable pub holds_table : List ℕ → ℕ → ℕ → Bool
holds_table ws t i = eqb (item_kind ws i) table_kind && eqb (item_guest ws i) t

-- a table is held once: no item made before holds what this one holds
unfoldable pub held_once : List ℕ → ℕ → Bool
held_once ws i = not (eqb (item_kind ws i) table_kind) || not (some_below (holds_table ws (item_guest ws i)) i)

-- ---- all of them

unfoldable pub item_valid : List ℕ → List ℕ → ℕ → Bool
item_valid ws ar i = ranges_valid ws i && (key_valid ws ar i && (parent_valid ws ar i && guest_valid ws i))

-- a link word holds the empty mark
unfoldable pub link_empty : List ℕ → ℕ → Bool
link_empty ws j = eqb (word ws (link_at j)) no_item

unfoldable pub fully_valid : List ℕ → List ℕ → Bool
fully_valid ws ar =
    valid ws (length ar)
    && (all_below (item_valid ws ar) (item_total ws) && (all_below (held_once ws) (item_total ws) && all_below (link_empty ws) links))

-- every table that an item holds has a number below the most that there can be
pub record GuestsFew (ws : List ℕ) : Type 0 where
  pub below : (i : ℕ) → i < item_total ws → item_kind ws i ≡ table_kind → item_guest ws i < most_tables
