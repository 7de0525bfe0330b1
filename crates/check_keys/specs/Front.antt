-- The front of an item's joined key that is still to be compared, and what passing over bytes of the file tells of it.
use Rattle.std.specs.Prelude.{ℕ, suc, ◌+◌, ◌-◌, ◌≤◌, ◌<◌, ◌≡◌, List, true, false, length, take, Ok, Option, Some, None}
use Rattle.words.specs.Store.{part}
use Rattle.key_order.specs.Compare.{same_bytes, ends_at}
use Rattle.layout.specs.declared.table.Table.{Table}
use Rattle.layout.specs.Item.{item_at}
use Rattle.read_chain.specs.Chain.{key_of, names}
use Rattle.read_listing.specs.Listing.{measure}
use Rattle.check_keys.specs.declared.search.Compared.{Compared}
use Rattle.check_keys.specs.declared.front.Front.{Front}
use Rattle.check_hash.specs.Key.{bytes_of}

-- the front that ends with an item's fragment
unfoldable pub front_at : List ℕ → Table → ℕ → ℕ → ℕ → Front
front_at file t at size left = record { at = at; rest = (item_at file t at).size; size = size; left = left }

-- the bytes of a front
unfoldable pub front_bytes : List ℕ → Table → Front → List ℕ
front_bytes file t p = take p.size (bytes_of (key_of file t p.left p.at))

-- the item's key reads; it is the front, and behind it the bytes of the item's fragment that were passed over
pub record FrontFits (file : List ℕ) (t : Table) (p : Front) : Type 0 where
  pub below : p.at < t.count
  pub sized : measure (key_of file t p.left p.at) ≡ Ok (p.size + ((item_at file t p.at).size - p.rest))
  pub short : p.rest ≤ (item_at file t p.at).size
  pub within : p.rest ≤ p.size

-- the same front, told further up
pub record Raised (file : List ℕ) (t : Table) (p q : Front) : Type 0 where
  pub fitting : FrontFits file t q
  pub level : q.size ≡ p.size
  pub higher : q.left < p.left
  pub front : front_bytes file t q ≡ front_bytes file t p

-- the new front, and behind it the bytes of the file up to `end`, are the old front
pub record Moved (file : List ℕ) (t : Table) (end : ℕ) (p q : Front) : Type 0 where
  pub fitting : FrontFits file t q
  pub fewer : q.size ≤ p.size
  pub nearer : q.left + q.size < p.left + p.size
  pub front : front_bytes file t q ≡ take q.size (front_bytes file t p)
  pub same : part (front_bytes file t p) q.size (p.size - q.size) ≡ part file (end - (p.size - q.size)) (p.size - q.size)

-- some bytes of the file up to `end` are passed over, or differ
unfoldable pub StretchPassed : List ℕ → Table → Front → ℕ → ℕ → Option Front → Type 0
StretchPassed file t p from end (Some q) = Moved file t end p q × (p.size - q.size ≤ end - from)
StretchPassed file t p from end None =
    (n : ℕ) × (n ≤ end - from) × (same_bytes (part (front_bytes file t p) (p.size - n) n) (part file (end - n) n) ≡ false)

-- the front ends in the fragment, and the new front is what stands before that; or it does not
unfoldable pub BackPassed : List ℕ → Table → Front → List ℕ → Option Front → Type 0
BackPassed file t p fragment (Some q) =
    FrontFits file t q × (q.size ≡ p.size - length fragment) × (front_bytes file t q ≡ take q.size (front_bytes file t p))
    × (ends_at (front_bytes file t p) p.size fragment ≡ true)
BackPassed file t p fragment None = ends_at (front_bytes file t p) p.size fragment ≡ false

-- what the chain of the item at an index says of a front; or that its parent's chain says the same of the new front
unfoldable pub ItemCompared : List ℕ → Table → ℕ → Front → Compared → Type 0
ItemCompared file t at p (Compared.Ended answer) = (steps : ℕ) → answer ≡ names (key_of file t (suc steps) at) (front_bytes file t p)
ItemCompared file t at p (Compared.Rest parent q) =
    (parent < t.count) × FrontFits file t q
    × ((steps : ℕ) → names (key_of file t (suc steps) at) (front_bytes file t p) ≡ names (key_of file t steps parent) (front_bytes file t q))
