-- The hashes of items, the items of ranks, and the indices of items, as lists.
use Rattle.std.specs.Prelude.{ℕ, zero, suc, ◌<◌, List, map, length, get_or, set}
use Rattle.key_hash.specs.declared.hash.Form.{Form}
use Rattle.key_hash.specs.Hash.{hash_by, signed}
use Rattle.build_memory.specs.Memory.{item_hash, key_of}
use Rattle.image.specs.Index.{key_order}
use Rattle.write_order.specs.Key.{keyed}

-- every element is below n
unfoldable pub AllBelow : ℕ → List ℕ → Type 0
AllBelow n l = (k : ℕ) → k < length l → get_or l k 0 < n

-- the hash of an item under a form: the base form's is the word in its record
unfoldable pub hash_for : Form → List ℕ → List ℕ → ℕ → ℕ
hash_for Form.Plain words arena i = item_hash words i
hash_for Form.Signed words arena i = hash_by signed (key_of words arena i)

-- the hashes of some items
unfoldable pub hashes_in : Form → List ℕ → List ℕ → List ℕ → List ℕ
hashes_in form words arena run = map (hash_for form words arena) run

-- some items by rank, and the hash of each rank
abbrev pub by_rank : List ℕ → List ℕ → List ℕ → List ℕ
by_rank words arena members = key_order (keyed words arena members)

abbrev pub rank_hashes : Form → List ℕ → List ℕ → List ℕ → List ℕ
rank_hashes form words arena members = hashes_in form words arena (by_rank words arena members)

-- the items of some ranks
unfoldable pub items_at : List ℕ → List ℕ → List ℕ
items_at run places = map (λ (place : ℕ). get_or run place 0) places

-- the indices 0, 1, .. of the first k items, each stored at its item
unfoldable pub indices_put : List ℕ → List ℕ → ℕ → List ℕ
indices_put indices items zero = indices
indices_put indices items (suc k) = set (indices_put indices items k) (get_or items k 0) k
