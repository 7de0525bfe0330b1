-- The number of document 01 that each answer stands for, 0 for a success, and the values that it carries, 0 where it has none.
use Rattle.std.specs.Prelude.{ℕ, Result, Ok, Err}
use Rattle.layout.specs.declared.refusal.Refusal.{Refusal}
use Rattle.read_listing.specs.declared.listing.WrittenKey.{WrittenKey}
use Rattle.read_listing.specs.declared.children.Child.{Child}
use Rattle.layout.specs.Refusal.{number, bad_at}
use Rattle.read_listing.specs.declared.listing.Valued.{Valued}

unfoldable pub listed_number : Result WrittenKey Refusal → ℕ
listed_number (Ok k) = 0
listed_number (Err why) = number why

-- where the stored fragment is bad, told with 9
unfoldable pub listed_at : Result WrittenKey Refusal → ℕ
listed_at (Ok k) = 0
listed_at (Err why) = bad_at why

-- the key's length, and the next position
unfoldable pub listed_key : Result WrittenKey Refusal → ℕ × ℕ
listed_key (Ok k) = (k.size, k.next.at)
listed_key (Err why) = (0, 0)

unfoldable pub valued_number : Valued → ℕ
valued_number (Valued.Value index start end next) = 0
valued_number (Valued.Unopened why index next) = number why
valued_number (Valued.Refused why) = number why

-- the item's index and the next position, which are told with 2 and 3 of its pointer too
unfoldable pub valued_item : Valued → ℕ × ℕ
valued_item (Valued.Value index start end next) = (index, next.at)
valued_item (Valued.Unopened why index next) = (index, next.at)
valued_item (Valued.Refused why) = (0, 0)

-- start and end of the pointer
unfoldable pub valued_pointer : Valued → ℕ × ℕ
valued_pointer (Valued.Value index start end next) = (start, end)
valued_pointer (Valued.Unopened why index next) = (0, 0)
valued_pointer (Valued.Refused why) = (0, 0)

unfoldable pub childed_number : Result Child Refusal → ℕ
childed_number (Ok x) = 0
childed_number (Err why) = number why

-- the child's index, and the next position
unfoldable pub childed_child : Result Child Refusal → ℕ × ℕ
childed_child (Ok x) = (x.index, x.next.at)
childed_child (Err why) = (0, 0)

-- the byte of its kind
unfoldable pub childed_kind : Result Child Refusal → ℕ
childed_kind (Ok x) = x.kind
childed_kind (Err why) = 0

-- start and end of its fragment
unfoldable pub childed_pointer : Result Child Refusal → ℕ × ℕ
childed_pointer (Ok x) = (x.start, x.end)
childed_pointer (Err why) = (0, 0)

-- where the given key is bad, told with 8, or the child's fragment, told with 9
unfoldable pub childed_at : Result Child Refusal → ℕ
childed_at (Ok x) = 0
childed_at (Err why) = bad_at why
