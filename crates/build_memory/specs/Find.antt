-- The search for the item of a table with a key, along the chain of the key's bucket. It reads memory of any content: a chain ends where
-- an index does not fall.
use Rattle.std.specs.Prelude.{ℕ, zero, suc, ◌%◌, Bool, ◌&&◌, List, length, eqb}
use Rattle.words.specs.Choice.{pick}
use Rattle.key_hash.specs.Hash.{hash_of}
use Rattle.key_order.specs.Compare.{same_bytes}
use Rattle.build_memory.specs.Memory.{word, buckets, head_at, item_total, item_table, item_hash, item_older, key_size, key_of}

-- item i is of table t and has the key, whose hash is h
unfoldable pub is_item : List ℕ → List ℕ → ℕ → ℕ → List ℕ → ℕ → Bool
is_item ws ar t h key i =
    eqb (item_table ws i) t && (eqb (item_hash ws i) h && (eqb (key_size ws i) (length key) && same_bytes (key_of ws ar i) key))

-- from i down a chain of indices, each below the one before it and below the limit: the first that passes, or none
unfoldable pub seek : (ℕ → Bool) → (ℕ → ℕ) → ℕ → ℕ → ℕ → ℕ
seek test older none zero i = none
seek test older none (suc limit) i =
    pick (eqb i limit) (pick (test limit) limit (seek test older none limit (older limit))) (seek test older none limit i)

-- the index of the item of table t with the key, or the count of the items where there is none
unfoldable pub find_key : List ℕ → List ℕ → ℕ → List ℕ → ℕ
find_key ws ar t key =
    seek (is_item ws ar t (hash_of key) key) (item_older ws) (item_total ws) (item_total ws) (word ws (head_at (hash_of key % buckets)))
