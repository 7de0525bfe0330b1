-- How a roster is filled, table by table: the items of a table among the first ones, the slots before a table, and what each step leaves.
use Rattle.std.specs.Prelude.{ℕ, zero, suc, ◌+◌, ◌*◌, ◌≤◌, ◌<◌, ◌≡◌, Bool, List, [], ◌∷◌, ◌++◌, eqb, length, get_or}
use Rattle.words.specs.Choice.{pick}
use Rattle.words.specs.Below.{some_below}
use Rattle.key_hash.specs.Hash.{hash_of}
use Rattle.words.specs.Store.{put_at}
use Rattle.layout.specs.Limits.{most_items}
use Rattle.layout.specs.Item.{no_item}
use Rattle.build_memory.specs.Memory.{word, least_words, links, link_at, table_total, item_total, item_table, item_hash, key_of}
use Rattle.image.specs.Index.{hashes_of, bucket_start, by_index, item_of, laid_index}
use Rattle.write_parts.specs.Numbered.{head_words}
use Rattle.write_order.specs.Chain.{starts}
use Rattle.write_order.specs.Items.{indices_put}
use Rattle.write_numbers.specs.Roster.{state_of}

-- the items of table t among the first n
unfoldable pub of_table : List ℕ → ℕ → ℕ → List ℕ
of_table ws t zero = []
of_table ws t (suc n) = pick (eqb (item_table ws n) t) (of_table ws t n ++ (n ∷ [])) (of_table ws t n)

-- the items of table t
unfoldable pub all_of_table : List ℕ → ℕ → List ℕ
all_of_table ws t = of_table ws t (item_total ws)

-- whether table t has one
abbrev pub in_table : List ℕ → ℕ → ℕ → Bool
in_table ws t i = eqb (item_table ws i) t

unfoldable pub has_items : List ℕ → ℕ → Bool
has_items ws t = some_below (in_table ws t) (item_total ws)

-- how many of the first n items are in the tables before t
unfoldable pub earlier : List ℕ → ℕ → ℕ → ℕ
earlier ws n zero = 0
earlier ws n (suc t) = earlier ws n t + length (of_table ws t n)

-- the first slot of table t
unfoldable pub first_slot_of : List ℕ → ℕ → ℕ
first_slot_of ws t = earlier ws (item_total ws) t

-- the words have room for all items that they count, each is in a table that there is, and the links hold the empty mark
pub record Fit (ws : List ℕ) : Type 0 where
  pub long : least_words ≤ length ws
  pub few : item_total ws ≤ most_items
  pub known : (i : ℕ) → i < item_total ws → item_table ws i < table_total ws
  pub empty : (j : ℕ) → j < links → word ws (link_at j) ≡ no_item

-- they fit, and the hash word of every item is the hash of its key
pub record Judged (ws ar : List ℕ) : Type 0 where
  pub fit : Fit ws
  pub hash : (i : ℕ) → i < item_total ws → item_hash ws i ≡ hash_of (key_of ws ar i)

-- the items of table t are collected
pub record Collected (ws : List ℕ) (t n : ℕ) (out out' : List ℕ) : Type 0 where
  pub count : n ≡ length (all_of_table ws t)
  pub put : out' ≡ put_at out 0 (all_of_table ws t)

-- they have their indices: the item at each index, the word of each bucket
pub record IndexedAs (rule : ℕ → ℕ) (ws ar : List ℕ) (t n : ℕ) (items items' firsts firsts' : List ℕ) : Type 0 where
  pub count : n ≡ length (state_of ws ar t).members
  pub items_are : items' ≡ put_at items 0 (by_index rule (state_of ws ar t))
  pub firsts_are : firsts' ≡ put_at firsts 0 (starts (hashes_of rule (state_of ws ar t)))

-- they are put into the slots from `first` on, their indices and the words of their buckets too
pub record Put (rule : ℕ → ℕ) (ws ar : List ℕ) (t first n : ℕ) (slots slots' indices indices' buckets buckets' : List ℕ) : Type 0 where
  pub count : n ≡ length (state_of ws ar t).members
  pub slots_are : slots' ≡ put_at slots first (by_index rule (state_of ws ar t))
  pub buckets_are : buckets' ≡ put_at buckets first (starts (hashes_of rule (state_of ws ar t)))
  pub indices_are : indices' ≡ indices_put indices (by_index rule (state_of ws ar t)) (length (by_index rule (state_of ws ar t)))

-- there is room for the slots of table t
abbrev pub Fits : List ℕ → ℕ → ℕ → Type 0
Fits ws t first = first + length (all_of_table ws t) ≤ most_items

-- the lists have their lengths
pub record Sized (slots indices buckets : List ℕ) : Type 0 where
  pub of_slots : length slots ≡ most_items
  pub of_indices : length indices ≡ most_items
  pub of_buckets : length buckets ≡ most_items

-- the tables before `most` are filled
pub record Filled (rule : ℕ → ℕ) (ws ar : List ℕ) (most : ℕ) (heads slots indices buckets : List ℕ) : Type 0 where
  pub starts_are : (t : ℕ) → t < most → get_or heads (head_words * t) 0 ≡ first_slot_of ws t
  pub counts_are : (t : ℕ) → t < most → get_or heads (head_words * t + 1) 0 ≡ length (state_of ws ar t).members
  pub items_are : (t k : ℕ) → t < most → k < length (state_of ws ar t).members → get_or slots (first_slot_of ws t + k) 0 ≡ item_of rule (state_of ws ar t) k
  pub buckets_are : (t b : ℕ) → t < most → b < length (state_of ws ar t).members → get_or buckets (first_slot_of ws t + b) 0 ≡ bucket_start (hashes_of rule (state_of ws ar t)) b
  pub indices_are : (i : ℕ) → i < item_total ws → item_table ws i < most → get_or indices i 0 ≡ laid_index rule (state_of ws ar (item_table ws i)) i
