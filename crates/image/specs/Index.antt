-- The order and the indices of a table's items, as document 01 has them under 'Laying an image'. The hash is over a rule for a byte.
use Rattle.std.specs.Prelude.{ℕ, zero, suc, ◌%◌, List, [], ◌∷◌, ◌++◌, map, eqb, length, get_or}
use Rattle.words.specs.Choice.{pick}
use Rattle.key_hash.specs.Hash.{hash_by}
use Rattle.key_order.specs.Order.{precedes}
use Rattle.model.specs.Table.{Rows}

-- an item inserted among items in ascending key order
unfoldable pub insert_key : Rows → ℕ → List ℕ → List ℕ
insert_key table i [] = i ∷ []
insert_key table i (j ∷ rest) = pick (precedes (table.key j) (table.key i)) (j ∷ insert_key table i rest) (i ∷ j ∷ rest)

unfoldable pub sort_keys : Rows → List ℕ → List ℕ
sort_keys table [] = []
sort_keys table (i ∷ rest) = insert_key table i (sort_keys table rest)

-- a table's items in ascending key order; an item's rank is where it stands in this order
unfoldable pub key_order : Rows → List ℕ
key_order table = sort_keys table table.members

unfoldable pub hashes_of : (ℕ → ℕ) → Rows → List ℕ
hashes_of rule table = map (λ (i : ℕ). hash_by rule (table.key i)) (key_order table)

-- ---- runs, over the hashes of the ranks

-- the bucket of a rank: there are as many buckets as items
unfoldable pub bucket_of : List ℕ → ℕ → ℕ
bucket_of hashes place = get_or hashes place 0 % length hashes

-- bucket b once the first k ranks are put into their buckets, in ascending order, each at the front
unfoldable pub run : List ℕ → ℕ → ℕ → List ℕ
run hashes b zero = []
run hashes b (suc k) = pick (eqb (bucket_of hashes k) b) (k ∷ run hashes b k) (run hashes b k)

-- the runs of the buckets before b, one behind the other
unfoldable pub runs_below : List ℕ → ℕ → List ℕ
runs_below hashes zero = []
runs_below hashes (suc b) = runs_below hashes b ++ run hashes b (length hashes)

-- the ranks in the order of their indices: bucket by bucket
unfoldable pub by_bucket : List ℕ → List ℕ
by_bucket hashes = runs_below hashes (length hashes)

-- a bucket's word: the count of items in the buckets before it
unfoldable pub bucket_start : List ℕ → ℕ → ℕ
bucket_start hashes b = length (runs_below hashes b)

-- ---- indices

-- the items in the order of their indices
unfoldable pub by_index : (ℕ → ℕ) → Rows → List ℕ
by_index rule table = map (λ (place : ℕ). get_or (key_order table) place 0) (by_bucket (hashes_of rule table))

-- the item at an index
unfoldable pub item_of : (ℕ → ℕ) → Rows → ℕ → ℕ
item_of rule table k = get_or (by_index rule table) k 0

-- where x first stands in a list
unfoldable pub index_in : List ℕ → ℕ → ℕ
index_in [] x = 0
index_in (y ∷ rest) x = pick (eqb y x) 0 (suc (index_in rest x))

-- the laid index of an item: the one that it gets in the image
unfoldable pub laid_index : (ℕ → ℕ) → Rows → ℕ → ℕ
laid_index rule table i = index_in (by_index rule table) i
