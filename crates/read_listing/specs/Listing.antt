-- Listing keys and values, from document 01, 'Lookup' and 'Order'. Key listing: opening, 15; then 2, 9, 10 from the item towards the
-- root, 11; then 14. Value listing: opening, 15, then 2 or 3.
use Rattle.std.specs.Prelude.{ℕ, zero, suc, ◌+◌, ◌-◌, List, length, ltb, leb, eqb, Result, Ok, Err}
use Rattle.layout.specs.declared.refusal.Refusal.{Refusal}
use Rattle.read_listing.specs.declared.listing.WrittenKey.{WrittenKey}
use Rattle.words.specs.Choice.{pick}
use Rattle.words.specs.Store.{put_at}
use Rattle.layout.specs.declared.refusal.Refusal.TheVariants.{PastTheLast, BufferTooShort}
use Rattle.layout.specs.declared.kind.Kind.{Kind}
use Rattle.layout.specs.declared.table.Table.{Table}
use Rattle.layout.specs.declared.item.Item.{Item}
use Rattle.layout.specs.Kind.{kind_byte}
use Rattle.layout.specs.Pointer.{open_pointer}
use Rattle.layout.specs.Table.{open_table}
use Rattle.layout.specs.Item.{item_at}
use Rattle.read_listing.specs.declared.listing.Valued.{Valued}
use Rattle.read_chain.specs.Chain.{Joined, key_of}

-- a key's length
unfoldable pub measure : Joined → Result ℕ Refusal
measure (Joined.joined k) = Ok (length k)
measure (Joined.broken why) = Err why

-- the key at a position of an open table: 15 past the last item
unfoldable pub key_in : List ℕ → ℕ → Table → Joined
key_in file at t = pick (leb t.count at) (Joined.broken PastTheLast) (key_of file t t.count at)

unfoldable pub key_opened : List ℕ → ℕ → Result Table Refusal → Joined
key_opened file at (Ok t) = key_in file at t
key_opened file at (Err why) = Joined.broken why

-- the key at a position of the table at a pointer
unfoldable pub key_at : List ℕ → ℕ → ℕ → ℕ → Joined
key_at file start end at = key_opened file at (open_table file start end)

-- the answer: 14 where the room is too small, else the key's length and the next position
unfoldable pub listed : Joined → ℕ → ℕ → Result WrittenKey Refusal
listed (Joined.joined k) room at =
    pick (ltb room (length k)) (Err BufferTooShort) (Ok (record { size = length k; next = record { at = at + 1 } }))
listed (Joined.broken why) room at = Err why

-- the lent buffer: the key at its front, all else as it was; a refusal writes nothing
unfoldable pub written : Joined → List ℕ → List ℕ
written (Joined.joined k) out = pick (ltb (length out) (length k)) out (put_at out 0 k)
written (Joined.broken why) out = out

-- the first of so many positions whose item is of kind 'v', or the item count
unfoldable pub next_of : List ℕ → Table → ℕ → ℕ → ℕ
next_of file t zero at = t.count
next_of file t (suc more) at = pick (eqb (item_at file t at).kind (kind_byte Kind.Value)) at (next_of file t more (at + 1))

-- the first item of kind 'v' at or after a position
unfoldable pub next_value : List ℕ → Table → ℕ → ℕ
next_value file t at = next_of file t (t.count - at) at

-- with 2 or 3 the index and the next position are told too
unfoldable pub value_opened : Result (Unit {0}) Refusal → ℕ → Item → Valued
value_opened (Ok _) index item = Valued.Value index item.from item.to (record { at = index + 1 })
value_opened (Err why) index item = Valued.Unopened why index (record { at = index + 1 })

-- the value of the item at an index: 15 past the last item, then 2 or 3 of its pointer, whose alignment is 8
unfoldable pub value_from : List ℕ → Table → ℕ → Valued
value_from file t index =
    pick (leb t.count index) (Valued.Refused PastTheLast)
    (value_opened (open_pointer (length file) (item_at file t index).from (item_at file t index).to 8) index (item_at file t index))

unfoldable pub value_in_opened : List ℕ → ℕ → Result Table Refusal → Valued
value_in_opened file at (Ok t) = value_from file t (next_value file t at)
value_in_opened file at (Err why) = Valued.Refused why

-- the first value at or after a position of the table at a pointer
unfoldable pub value_at : List ℕ → ℕ → ℕ → ℕ → Valued
value_at file start end at = value_in_opened file at (open_table file start end)
