-- The table check, from document 01, 'The check's six rules': each rule is a test of an item, and the check answers the first item that
-- breaks one, with the first rule that it breaks, and for rule 1 with what listing that item refuses. The rule for a byte of the hash is a
-- parameter.
use Rattle.std.specs.Prelude.{ℕ, zero, suc, ◌+◌, ◌-◌, ◌%◌, List, Bool, true, false, not, ◌&&◌, length, ltb, eqb, Result, Ok, Err, Option, Some, None}
use Rattle.layout.specs.declared.refusal.Refusal.{Refusal}
use Rattle.words.specs.Choice.{pick}
use Rattle.words.specs.Below.{all_below, some_below}
use Rattle.text.specs.Utf8.{is_utf8}
use Rattle.layout.specs.declared.kind.Kind.{Kind}
use Rattle.layout.specs.declared.table.Table.{Table}
use Rattle.layout.specs.declared.item.Item.{Item}
use Rattle.layout.specs.Kind.{kind_byte, kind_known}
use Rattle.layout.specs.Pointer.{open_pointer}
use Rattle.layout.specs.Table.{open_table}
use Rattle.layout.specs.Item.{item_at}
use Rattle.read_chain.specs.Chain.{Joined, key_of, parent_of}
use Rattle.read_find.specs.Find.{Manner, find_item}
use Rattle.read_listing.specs.Children.{child_at, child_count}
use Rattle.check_rules.specs.declared.checked.Checked.{Checked}

-- (1) its key would list, given room
unfoldable pub is_joined : Joined → Bool
is_joined (Joined.joined k) = true
is_joined (Joined.broken why) = false

unfoldable pub key_lists : List ℕ → Table → ℕ → Bool
key_lists file t index = is_joined (key_of file t t.count index)

-- (2) lookup of that key, taken before 13 and what follows it (so: 8, then 12), answers this index
unfoldable pub index_of : Manner → List ℕ → Table → List ℕ → Option ℕ
index_of manner file t key = pick (is_utf8 key) (find_item manner file t key) None

unfoldable pub sought_at : Manner → List ℕ → Table → Joined → Option ℕ
sought_at manner file t (Joined.joined k) = index_of manner file t k
sought_at manner file t (Joined.broken why) = None

unfoldable pub is_at : ℕ → Option ℕ → Bool
is_at index (Some found) = eqb found index
is_at index None = false

unfoldable pub key_finds : Manner → List ℕ → Table → ℕ → Bool
key_finds manner file t index = is_at index (sought_at manner file t (key_of file t t.count index))

-- (3) the kind is known: `kind_known` of the layout

-- (4) the value pointer opens, for 'H' opens as a table, for 'L' has a length divisible by 4
unfoldable pub is_inside : Result (Unit {0}) Refusal → Bool
is_inside (Ok _) = true
is_inside (Err why) = false

unfoldable pub is_table : Result Table Refusal → Bool
is_table (Ok t) = true
is_table (Err why) = false

unfoldable pub list_opens : List ℕ → Item → Bool
list_opens file item =
    is_inside (open_pointer (length file) item.from item.to 4) && eqb ((item.to - item.from) % 4) 0

unfoldable pub value_opens : List ℕ → Item → Bool
value_opens file item =
    pick (eqb item.kind (kind_byte Kind.Value)) (is_inside (open_pointer (length file) item.from item.to 8))
    (pick (eqb item.kind (kind_byte Kind.Table)) (is_table (open_table file item.from item.to))
    (pick (eqb item.kind (kind_byte Kind.Container)) (list_opens file item) false))

-- whether an index is among the first n children
unfoldable pub among : List ℕ → ℕ → ℕ → ℕ → Bool
among file from n index = some_below (λ k. eqb (child_at file from k) index) n

-- (5) for 'L', each child index is below the count, names this item as parent, and appears once: it is not among those before it
unfoldable pub child_good : List ℕ → Table → ℕ → ℕ → ℕ → Bool
child_good file t index from k =
    ltb (child_at file from k) t.count
    && (eqb (item_at file t (child_at file from k)).parent index && not (among file from k (child_at file from k)))

unfoldable pub children_good : List ℕ → Table → ℕ → Item → Bool
children_good file t index item =
    pick (eqb item.kind (kind_byte Kind.Container)) (all_below (child_good file t index item.from) (child_count item)) true

-- (6) its parent, if any, is 'L', keeps rule 4 and lists it
unfoldable pub lists_it : List ℕ → ℕ → Item → Bool
lists_it file index parent =
    eqb parent.kind (kind_byte Kind.Container)
    && (value_opens file parent && among file parent.from (child_count parent) index)

unfoldable pub parent_keeps : List ℕ → Table → ℕ → Result (Option ℕ) Refusal → Bool
parent_keeps file t index (Ok None) = true
parent_keeps file t index (Ok (Some parent)) = lists_it file index (item_at file t parent)
parent_keeps file t index (Err why) = false

unfoldable pub parent_good : List ℕ → Table → ℕ → Item → Bool
parent_good file t index item = parent_keeps file t index (parent_of t.count item.parent)

-- the first rule that an item breaks; 0 where it breaks none
unfoldable pub broken_rule : Manner → List ℕ → Table → ℕ → ℕ
broken_rule manner file t index =
    pick (key_lists file t index)
    (pick (key_finds manner file t index)
    (pick (kind_known (item_at file t index).kind)
    (pick (value_opens file (item_at file t index))
    (pick (children_good file t index (item_at file t index))
    (pick (parent_good file t index (item_at file t index))
    0 6) 5) 4) 3) 2) 1

-- the first item, among so many from a position on, that breaks a rule
unfoldable pub first_broken : (ℕ → ℕ) → ℕ → ℕ → Checked
first_broken broken zero at = Checked.Sound
first_broken broken (suc more) at =
    pick (eqb (broken at) 0) (first_broken broken more (at + 1)) (Checked.Broken (broken at) at)

-- rule 1 is answered with the refusal with which listing the item ends
unfoldable pub unlisted : Joined → ℕ → Checked
unlisted (Joined.broken why) item = Checked.Unlisted why item
unlisted (Joined.joined key) item = Checked.Broken 1 item

-- the other answers stand as they are
unfoldable pub explained : List ℕ → Table → Checked → Checked
explained file t Checked.Sound = Checked.Sound
explained file t (Checked.Broken rule item) = pick (eqb rule 1) (unlisted (key_of file t t.count item) item) (Checked.Broken rule item)
explained file t (Checked.Unlisted why item) = Checked.Unlisted why item
explained file t (Checked.Refused why) = Checked.Refused why

unfoldable pub check_in : Manner → List ℕ → Table → Checked
check_in manner file t = explained file t (first_broken (broken_rule manner file t) t.count 0)

unfoldable pub check_opened : Manner → List ℕ → Result Table Refusal → Checked
check_opened manner file (Ok t) = check_in manner file t
check_opened manner file (Err why) = Checked.Refused why

-- opening, then 40 for the first item and its first broken rule
unfoldable pub check_table : Manner → List ℕ → ℕ → ℕ → Checked
check_table manner file start end = check_opened manner file (open_table file start end)
