-- The joined key of an item, which is never written out: its bytes, its hash and its length.
use Rattle.std.specs.Prelude.{◌≡◌, ℕ, ◌<◌, List, [], length, Ok, Option, Some, None}
use Rattle.check_hash.specs.declared.tally.JoinedKey.{JoinedKey}
use Rattle.key_hash.specs.Hash.{hash_by}
use Rattle.layout.specs.declared.table.Table.{Table}
use Rattle.layout.specs.Table.{InFile}
use Rattle.read_chain.specs.Chain.{Joined, key_of}
use Rattle.read_listing.specs.Listing.{measure}

unfoldable pub bytes_of : Joined → List ℕ
bytes_of (Joined.joined k) = k
bytes_of (Joined.broken why) = []

unfoldable pub joined_key : (ℕ → ℕ) → Joined → Option JoinedKey
joined_key rule (Joined.joined k) = Some (record { hash = hash_by rule k; size = length k })
joined_key rule (Joined.broken why) = None

-- an item of the table whose joined key reads and has `size` bytes
pub record Keyed (file : List ℕ) (t : Table) (index size : ℕ) : Type 0 where
  pub inside : InFile file t
  pub below : index < t.count
  pub sized : measure (key_of file t t.count index) ≡ Ok size
