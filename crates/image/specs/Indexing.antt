-- What holds of the order and the indices of a table's items.
use Rattle.std.specs.Prelude.{ℕ, zero, suc, ◌≤◌, ◌<◌, ◌≡◌, false, List, [], ◌∷◌, ltb, length, get_or}
use Rattle.words.specs.Choice.{pick}
use Rattle.key_order.specs.Order.{precedes}
use Rattle.model.specs.Table.{Rows, Has}
use Rattle.image.specs.Index.{bucket_of, runs_below}

-- a list of the numbers below n, each once; `place` says where each stands
pub record Each (n : ℕ) (l : List ℕ) : Type 0 where
  pub size : length l ≡ n
  pub within : (k : ℕ) → k < n → get_or l k 0 < n
  pub once : (j k : ℕ) → j < n → k < n → get_or l j 0 ≡ get_or l k 0 → j ≡ k
  pub place : ℕ → ℕ
  pub placed : (x : ℕ) → x < n → place x < n
  pub stands : (x : ℕ) → x < n → get_or l (place x) 0 ≡ x

-- a list of the members of a table, each once
pub record Indexing (members l : List ℕ) : Type 0 where
  pub size : length l ≡ length members
  pub has : (k : ℕ) → k < length members → Has members (get_or l k 0)
  pub once : (j k : ℕ) → j < length members → k < length members → get_or l j 0 ≡ get_or l k 0 → j ≡ k
  pub all : (x : ℕ) → Has members x → Has l x

-- a rank of bucket b, below k
pub record InRun (hashes : List ℕ) (b k x : ℕ) : Type 0 where
  pub below : x < k
  pub same : bucket_of hashes x ≡ b

-- the rank at index k: its bucket is one before d, and k lies in the run of its bucket
pub record InBucket (hashes : List ℕ) (d k x : ℕ) : Type 0 where
  pub below : x < length hashes
  pub bucket_below : bucket_of hashes x < d
  pub from : length (runs_below hashes (bucket_of hashes x)) ≤ k
  pub to : k < length (runs_below hashes (suc (bucket_of hashes x)))

-- how many of the ranks below k are of a bucket before b
unfoldable pub ranks_before : List ℕ → ℕ → ℕ → ℕ
ranks_before hashes b zero = 0
ranks_before hashes b (suc k) = pick (ltb (bucket_of hashes k) b) (suc (ranks_before hashes b k)) (ranks_before hashes b k)

-- no item has a key before the key of an item in front of it
unfoldable pub Ascending : Rows → List ℕ → Type 0
Ascending table [] = Unit
Ascending table (x ∷ l) = ((y : ℕ) → Has l y → precedes (table.key y) (table.key x) ≡ false) × Ascending table l
