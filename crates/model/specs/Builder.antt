-- What a builder holds, and what each call answers and does, in the words and the order of document 01. A refusal changes nothing.
-- Refusal 29 is about memory and does not occur here.
use Rattle.std.specs.Prelude.{ℕ, zero, suc, ◌+◌, Bool, true, false, ◌&&◌, not, List, [], ◌∷◌, ◌++◌, eqb, ltb, leb, length, get_or, set, drop, Result, Ok, Err, Some, None}
use Rattle.model.specs.Inserted.{Inserted}
use Rattle.words.specs.Choice.{pick}
use Rattle.text.specs.Utf8.{first_bad, is_utf8}
use Rattle.key_order.specs.Prefix.{prefixes}
use Rattle.layout.specs.Limits.{longest_key, most_items, most_tables, deepest}
use Rattle.layout.specs.declared.refusal.Refusal.{Refusal}
use Rattle.layout.specs.declared.refusal.Refusal.TheVariants.{KeyNotUtf8, KeyTooLong, NotContainer, TooManyItems, ArenaFull, TableUnknown, TableInItself, NestedTooDeep, TooManyTables, SeparatorOutside}
use Rattle.layout.specs.Item.{no_item}
use Rattle.model.specs.Table.{Content, Entry, entry_at, kind_of, members_below}
use Rattle.model.specs.Walk.{find_key, is_there, Walked, walk, key_room}

-- ---- what a builder holds

-- how a table stands: its separator (`no_separator`: none), and whether it was put into another
pub record Standing : Type 0 where
  pub separator : ℕ
  pub placed : Bool

abbrev pub no_separator : ℕ
no_separator = 256

abbrev pub no_standing : Standing
no_standing = record { separator = no_separator; placed = true }

-- the arena's length and how much of it is used; the tables, by number; the items of all tables in order of creation
pub record Builder : Type 0 where
  pub room : ℕ
  pub used : ℕ
  pub tables : List Standing
  pub items : List Entry

abbrev pub fresh : ℕ → Builder
fresh room = record { room = room; used = 0; tables = []; items = [] }

unfoldable pub standing_at : Builder → ℕ → Standing
standing_at m t = get_or m.tables t no_standing

-- a free-standing table: known and not placed
unfoldable pub free_standing : Builder → ℕ → Bool
free_standing m t = ltb t (length m.tables) && not (standing_at m t).placed

-- the builder with other items, and so much room used
abbrev pub with_items : Builder → List Entry → ℕ → Builder
with_items m items used = record { room = m.room; used = used; tables = m.tables; items = items }

-- what a call leaves: its answer, and the builder
pub record Reply (A : Type 0) : Type 0 where
  pub answer : A
  pub after : Builder

abbrev pub result : {A : Type 0} → A → Builder → Reply A
result answer after = record { answer = answer; after = after }

-- ---- a new table: 28, 27

-- a separator as a number: none is `no_separator`, one byte 1 to 127 is itself, anything else is 0, which is no separator
unfoldable pub separator_of : List ℕ → ℕ
separator_of [] = no_separator
separator_of (b ∷ []) = pick (leb b 127) b 0
separator_of (b ∷ c ∷ more) = 0

unfoldable pub new_table : Builder → List ℕ → Reply (Result ℕ Refusal)
new_table m separator =
    pick (eqb (separator_of separator) 0) (result (Err SeparatorOutside) m)
    (pick (leb most_tables (length m.tables)) (result (Err TooManyTables) m)
    (result (Ok (length m.tables))
    (record { room = m.room; used = m.used; tables = m.tables ++ (record { separator = separator_of separator; placed = false } ∷ []); items = m.items })))

-- ---- heights

-- the greatest of f 0 .. f (n - 1), or 0
unfoldable pub most : (ℕ → ℕ) → ℕ → ℕ
most f zero = 0
most f (suc n) = pick (ltb (most f n) (f n)) (f n) (most f n)

-- the height of the table that an item of table t holds, or 0
unfoldable pub held_by : (ℕ → ℕ) → ℕ → Content → ℕ
held_by height t (Content.bytes value) = 0
held_by height t (Content.nested u) = height u
held_by height t Content.container = 0

-- the greatest height that table t holds now, 0 where it holds none; nesting is followed so many tables deep
unfoldable pub held_in : List Entry → ℕ → ℕ → ℕ
held_in items zero t = 0
held_in items (suc d) t =
    most (λ i. pick (eqb (entry_at items i).table t) (held_by (λ u. suc (held_in items d u)) t (entry_at items i).content) 0) (length items)

-- the height is 1 for a table that holds none, else 1 plus the greatest height held
unfoldable pub height : Builder → ℕ → ℕ
height m t = suc (held_in m.items (length m.tables) t)

-- ---- the inserts

abbrev pub refused : Refusal → Builder → Reply Inserted
refused why m = result (Err why) m

-- the news: a new key, or the kind that stood there
unfoldable pub news : List Entry → ℕ → List ℕ → Inserted
news items t key =
    pick (is_there items t key) (Ok (Some (kind_of (entry_at items (find_key items t key)).content))) (Ok None)

-- room used afterwards: the full key of each item made, and the value
unfoldable pub used_after : Builder → List Entry → ℕ → ℕ
used_after m after size = m.used + key_room (drop (length m.items) after) + size

-- 22, 23
unfoldable pub counted : Builder → ℕ → List ℕ → ℕ → List Entry → Reply Inserted
counted m t key size after =
    pick (ltb most_items (length after)) (refused TooManyItems m)
    (pick (ltb m.room (used_after m after size)) (refused ArenaFull m)
    (result (news m.items t key) (with_items m after (used_after m after size))))

-- 21, then 26 where what is put in is so high that the receiver would pass 8, then 22, 23
unfoldable pub at_walked : Walked → Bool → Builder → ℕ → List ℕ → ℕ → Reply Inserted
at_walked Walked.blocked deep m t key size = refused NotContainer m
at_walked (Walked.walked after) deep m t key size = pick deep (refused NestedTooDeep m) (counted m t key size after)

unfoldable pub put : Builder → ℕ → List ℕ → Content → ℕ → Bool → Reply Inserted
put m t key content size deep =
    at_walked (walk t content (prefixes (standing_at m t).separator key) m.items no_item) deep m t key size

-- 8 with the offset in the key, 20
unfoldable pub keyed : Builder → List ℕ → Reply Inserted → Reply Inserted
keyed m key next =
    pick (is_utf8 key) (pick (ltb longest_key (length key)) (refused KeyTooLong m) next) (refused (KeyNotUtf8 (first_bad key)) m)

-- a value: 24, 8, 20, 21, 22, 23
unfoldable pub insert_value : Builder → ℕ → List ℕ → List ℕ → Reply Inserted
insert_value m t key value =
    pick (free_standing m t) (keyed m key (put m t key (Content.bytes value) (length value) false)) (refused TableUnknown m)

-- table t placed
unfoldable pub place : Builder → ℕ → Builder
place m t = record {
  room = m.room;
  used = m.used;
  tables = set m.tables t (record { separator = (standing_at m t).separator; placed = true });
  items = m.items;
}

-- the guest is placed where its insert is accepted
unfoldable pub when_accepted : Inserted → Builder → Builder → Builder
when_accepted (Ok _) accepted refused = accepted
when_accepted (Err why) accepted refused = refused

unfoldable pub settled : ℕ → Reply Inserted → Reply Inserted
settled guest r = result r.answer (when_accepted r.answer (place r.after guest) r.after)

-- a table: 24 for the receiver, 24 for the guest, 25, 8, 20, 21, 26, 22, 23
unfoldable pub insert_table : Builder → ℕ → List ℕ → ℕ → Reply Inserted
insert_table m t key guest =
    pick (free_standing m t)
    (pick (free_standing m guest)
    (pick (eqb t guest) (refused TableInItself m)
    (keyed m key (settled guest (put m t key (Content.nested guest) 0 (ltb deepest (suc (height m guest)))))))
    (refused TableUnknown m))
    (refused TableUnknown m)

-- ---- the item count, of a placed table too: 24 where the number is unknown

unfoldable pub item_count : Builder → ℕ → Result ℕ Refusal
item_count m t =
    pick (ltb t (length m.tables)) (Ok (length (members_below m.items t (length m.items)))) (Err TableUnknown)
