-- What comes with 8 and with 9: where the given key is bad, and where the stored fragment is.
use Rattle.std.specs.Prelude.{ℕ, zero, suc, ◌+◌, ◌<◌, ◌≡◌, ◌⊎◌, ◌↔◌, List, length, Ok, Err, Some}
use Rattle.text.specs.Bad.{BadText}
use Rattle.layout.specs.declared.refusal.Refusal.TheVariants.{KeyNotUtf8, FragmentNotUtf8}
use Rattle.layout.specs.declared.table.Table.{Table}
use Rattle.layout.specs.declared.item.Item.{Item}
use Rattle.layout.specs.Pointer.{open_pointer}
use Rattle.layout.specs.Table.{open_table}
use Rattle.layout.specs.Item.{item_at}
use Rattle.read_chain.specs.Chain.{fragment_of, climb_from}
use Rattle.read.specs.Lookup.{lookup_value, lookup_table}
use Rattle.read_find.specs.Find.{Manner}
use Rattle.read_listing.specs.Listing.{key_at, listed}

-- the statement: 8 comes exactly where the table opens and the given key is bad, with the offset at which it is
abbrev pub EightAt : Type 0
EightAt =
    (manner : Manner) (file : List ℕ) (start end : ℕ) (key : List ℕ) (at : ℕ)
    → ((lookup_value manner file start end key ≡ Err (KeyNotUtf8 at)) ↔ ((t : Table) × (open_table file start end ≡ Ok t) × BadText key at))
    × ((lookup_table manner file start end key ≡ Err (KeyNotUtf8 at)) ↔ ((t : Table) × (open_table file start end ≡ Ok t) × BadText key at))

-- an item's fragment lies in the file and is bad at an offset
abbrev pub BadHere : List ℕ → Item → ℕ → Type 0
BadHere file item at = (open_pointer (length file) item.key (item.key + item.size) 1 ≡ Ok tt) × BadText (fragment_of file item) at

-- the first fragment that is refused, from an item towards the root by at most so many items, is bad at an offset
unfoldable pub BadFragment : List ℕ → Table → ℕ → ℕ → ℕ → Type 0
BadFragment file t zero index at = ⊥
BadFragment file t (suc steps) index at =
    BadHere file (item_at file t index) at
    ⊎ ((parent : ℕ) × (climb_from file t.count (item_at file t index) ≡ Ok (Some parent)) × BadFragment file t steps parent at)

-- the statement: listing an item ends with 9 exactly where the first fragment that is refused is bad, with the offset at which it is
abbrev pub NineAt : Type 0
NineAt =
    (file : List ℕ) (start end position room at : ℕ)
    → (listed (key_at file start end position) room position ≡ Err (FragmentNotUtf8 at))
    ↔ ((t : Table) × (open_table file start end ≡ Ok t) × (position < t.count) × BadFragment file t t.count position at)
