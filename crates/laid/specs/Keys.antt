-- What a plan has to keep so that its keys are found: whole keys along the chains of parents, and runs of buckets, index by index.
use Rattle.std.specs.Prelude.{ℕ, ◌+◌, ◌%◌, ◌≤◌, ◌<◌, ◌≡◌, true, List, ◌++◌, ltb}
use Rattle.words.specs.Choice.{pick}
use Rattle.key_hash.specs.Hash.{hash_by}
use Rattle.text.specs.Utf8.{is_utf8}
use Rattle.layout.specs.Item.{no_item}
use Rattle.image.specs.Plan.{Plan}

-- the parent of item k is an item too, `rank` is lower for it, and its key with k's fragment behind it is k's key
pub record ChildOf (p : Plan) (key : ℕ → List ℕ) (rank : ℕ → ℕ) (k : ℕ) : Type 0 where
  pub within : p.parent k < p.count
  pub falls : rank (p.parent k) < rank k
  pub joins : key k ≡ key (p.parent k) ++ p.fragment k

-- the fragments from root to item, joined, are the keys; since `rank` falls towards the parent, every chain reaches a root
pub record PlanKeys (p : Plan) (key : ℕ → List ℕ) (rank : ℕ → ℕ) : Type 0 where
  pub few : p.count < no_item
  pub root : (k : ℕ) → k < p.count → p.parent k ≡ no_item → p.fragment k ≡ key k
  pub child : (k : ℕ) → k < p.count → (p.parent k ≡ no_item → ⊥) → ChildOf p key rank k
  pub utf8 : (k : ℕ) → k < p.count → is_utf8 (p.fragment k) ≡ true
  pub ranked : (k : ℕ) → k < p.count → rank k < p.count

-- where a bucket's run ends: at the next bucket's word, or at the item count for the last bucket
unfoldable pub last_of : Plan → ℕ → ℕ
last_of p b = pick (ltb (b + 1) p.count) (p.first (b + 1)) p.count

-- no key twice, and each item in the run of the bucket of its key's hash
pub record PlanRuns (rule : ℕ → ℕ) (p : Plan) (key : ℕ → List ℕ) : Type 0 where
  pub hashed : (k : ℕ) → k < p.count → p.hash k ≡ hash_by rule (key k)
  pub distinct : (j k : ℕ) → j < p.count → k < p.count → key j ≡ key k → j ≡ k
  pub from : (k : ℕ) → k < p.count → p.first (p.hash k % p.count) ≤ k
  pub to : (k : ℕ) → k < p.count → k < last_of p (p.hash k % p.count)
