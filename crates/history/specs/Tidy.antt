-- Memory that only the builder wrote: every key and value lies within the room used, each bucket's chain leads through all its items, and the links
-- are empty.
use Rattle.std.specs.Prelude.{ℕ, zero, suc, ◌+◌, ◌%◌, ◌≤◌, ◌<◌, ◌≡◌, List, length, eqb}
use Rattle.words.specs.Choice.{pick}
use Rattle.key_hash.specs.Hash.{hash_of}
use Rattle.layout.specs.Item.{no_item}
use Rattle.build_memory.specs.Memory.{word, buckets, links, head_at, link_at, item_total, room_used, item_hash, item_older, key_start, key_size, value_start, value_size, key_of, Valid}

-- the last index below m that is in bucket b, or the empty mark
unfoldable pub last_in : (ℕ → ℕ) → ℕ → ℕ → ℕ
last_in bucket b zero = no_item
last_in bucket b (suc m) = pick (eqb (bucket m) b) m (last_in bucket b m)

abbrev pub bucket_of : List ℕ → ℕ → ℕ
bucket_of ws i = item_hash ws i % buckets

pub record Tidy (ws ar : List ℕ) : Type 0 where
  pub valid-memory : Valid ws (length ar)
  pub keys : (i : ℕ) → i < item_total ws → key_start ws i + key_size ws i ≤ room_used ws
  pub values : (i : ℕ) → i < item_total ws → value_start ws i + value_size ws i ≤ room_used ws
  pub hashes : (i : ℕ) → i < item_total ws → item_hash ws i ≡ hash_of (key_of ws ar i)
  pub heads : (b : ℕ) → b < buckets → word ws (head_at b) ≡ last_in (bucket_of ws) b (item_total ws)
  pub olders : (i : ℕ) → i < item_total ws → item_older ws i ≡ last_in (bucket_of ws) (bucket_of ws i) i
  pub clear : (j : ℕ) → j < links → word ws (link_at j) ≡ no_item
