-- What a plan has to keep so that its image reads back, what is read there, and when two plans agree.
use Rattle.std.specs.Prelude.{ℕ, ◌+◌, ◌*◌, ◌^◌, ◌≤◌, ◌<◌, ◌≡◌, length}
use Rattle.layout.specs.declared.table.Table.{Table}
use Rattle.layout.specs.declared.item.Item.{Item}
use Rattle.layout.specs.Sizes.{chunk_size}
use Rattle.image.specs.Plan.{Plan, place, value_start}

-- every word fits its field, and a value pointer covers no more than was laid
pub record PlanFits (p : Plan) : Type 0 where
  pub first32 : (b : ℕ) → b < p.count → p.first b < 4294967296
  pub filter27 : p.filter < 2 ^ 27
  pub hash32 : (k : ℕ) → k < p.count → p.hash k < 4294967296
  pub parent32 : (k : ℕ) → k < p.count → p.parent k < 4294967296
  pub fragment16 : (k : ℕ) → k < p.count → length (p.fragment k) < 65536
  pub covered : (k at : ℕ) → k < p.count → p.covers k ≤ length (p.value k at)

-- the table that opens where a plan of so many filter words and items is laid at `at`
unfoldable pub opened_as : ℕ → ℕ → ℕ → Table
opened_as at filter count = record { start = at; blooms = filter; buckets = count; items = at + (8 + 4 * filter + 4 * count); count = count }

-- the item that reads at index k there
unfoldable pub laid_item : Plan → ℕ → ℕ → Item
laid_item p at k = record {
  hash = p.hash k;
  parent = p.parent k;
  key = place p (at + chunk_size p.filter p.count) k;
  size = length (p.fragment k);
  kind = p.kind k;
  from = value_start p k (place p (at + chunk_size p.filter p.count) k);
  to = value_start p k (place p (at + chunk_size p.filter p.count) k) + p.covers k;
}

-- two plans that agree at every index
pub record SamePlan (p q : Plan) : Type 0 where
  pub count : p.count ≡ q.count
  pub filter : p.filter ≡ q.filter
  pub first : (b : ℕ) → b < p.count → p.first b ≡ q.first b
  pub hash : (k : ℕ) → k < p.count → p.hash k ≡ q.hash k
  pub parent : (k : ℕ) → k < p.count → p.parent k ≡ q.parent k
  pub fragment : (k : ℕ) → k < p.count → p.fragment k ≡ q.fragment k
  pub kind : (k : ℕ) → k < p.count → p.kind k ≡ q.kind k
  pub align : (k : ℕ) → k < p.count → p.align k ≡ q.align k
  pub value : (k at : ℕ) → k < p.count → p.value k at ≡ q.value k at
  pub covers : (k : ℕ) → k < p.count → p.covers k ≡ q.covers k
