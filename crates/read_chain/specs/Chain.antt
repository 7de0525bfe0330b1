-- An item's key through its parents, from document 01, 'Lookup' and 'Order': one definition for lookup, listing and check.
use Rattle.std.specs.Prelude.{ℕ, zero, suc, ◌+◌, ◌-◌, List, ◌++◌, Bool, false, length, ltb, eqb, Result, Ok, Err, Option, Some, None}
use Rattle.words.specs.Choice.{pick}
use Rattle.words.specs.Store.{part}
use Rattle.key_order.specs.Compare.{same_bytes, ends_at}
use Rattle.text.specs.Utf8.{first_bad, is_utf8}
use Rattle.layout.specs.declared.refusal.Refusal.{Refusal}
use Rattle.layout.specs.declared.refusal.Refusal.TheVariants.{FragmentNotUtf8, ParentOutside, ParentsEndless}
use Rattle.layout.specs.declared.table.Table.{Table}
use Rattle.layout.specs.declared.item.Item.{Item}
use Rattle.layout.specs.Pointer.{open_pointer}
use Rattle.layout.specs.Item.{item_at, no_item}
use Rattle.read_chain.specs.declared.chain.Matched.{Matched}

-- an item's key fragment
unfoldable pub fragment_of : List ℕ → Item → List ℕ
fragment_of file item = part file item.key item.size

-- a root, or the parent; 10 where its index is not below the item count
unfoldable pub parent_of : ℕ → ℕ → Result (Option ℕ) Refusal
parent_of count parent =
    pick (eqb parent no_item) (Ok None)
    (pick (ltb parent count) (Ok (Some parent)) (Err ParentOutside))

unfoldable pub after_pointer : Result (Unit {0}) Refusal → Result (Option ℕ) Refusal → Result (Option ℕ) Refusal
after_pointer (Ok _) step = step
after_pointer (Err why) step = Err why

-- for each item 2, 9 with the offset in its fragment, then 10 for its parent
unfoldable pub climb_from : List ℕ → ℕ → Item → Result (Option ℕ) Refusal
climb_from file count item =
    after_pointer (open_pointer (length file) item.key (item.key + item.size) 1)
    (pick (is_utf8 (fragment_of file item)) (parent_of count item.parent) (Err (FragmentNotUtf8 (first_bad (fragment_of file item)))))

-- the fragments from root to item, joined; or why there is no such key
pub data Joined : Type 0 where
  joined : List ℕ → Joined
  broken : Refusal → Joined

unfoldable pub append : Joined → List ℕ → Joined
append (joined above) fragment = joined (above ++ fragment)
append (broken why) fragment = broken why

unfoldable pub join_step : Result (Option ℕ) Refusal → List ℕ → (ℕ → Joined) → Joined
join_step (Ok None) fragment key_at = joined fragment
join_step (Ok (Some parent)) fragment key_at = append (key_at parent) fragment
join_step (Err why) fragment key_at = broken why

-- the key of the item at an index, by a chain of at most so many items; 11 where that reaches no root
unfoldable pub key_of : List ℕ → Table → ℕ → ℕ → Joined
key_of file t zero index = broken ParentsEndless
key_of file t (suc steps) index =
    join_step (climb_from file t.count (item_at file t index)) (fragment_of file (item_at file t index)) (λ parent. key_of file t steps parent)

-- a chain names a key when it joins to that key
unfoldable pub names : Joined → List ℕ → Bool
names (joined k) key = same_bytes k key
names (broken why) key = false

-- the loop's step: the key has to end in the fragment, and the parent's chain has to name the front
unfoldable pub match_tail : List ℕ → ℕ → List ℕ → Matched
match_tail fragment parent key =
    pick (ends_at key (length key) fragment) (Matched.Rest parent (length key - length fragment)) (Matched.Ended false)

unfoldable pub match_step : Result (Option ℕ) Refusal → List ℕ → List ℕ → Matched
match_step (Err why) fragment key = Matched.Ended false
match_step (Ok None) fragment key = Matched.Ended (same_bytes fragment key)
match_step (Ok (Some parent)) fragment key = match_tail fragment parent key

-- the same of a fragment that has to be UTF-8
unfoldable pub match_text : Result (Option ℕ) Refusal → List ℕ → List ℕ → Matched
match_text step fragment key = match_step (pick (is_utf8 fragment) step (Err (FragmentNotUtf8 (first_bad fragment)))) fragment key

unfoldable pub match_item : List ℕ → Table → ℕ → List ℕ → Matched
match_item file t index key =
    match_step (climb_from file t.count (item_at file t index)) (fragment_of file (item_at file t index)) key
