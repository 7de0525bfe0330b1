-- The insert of a value: 29, 24, 8, 20, 21, 22, 23; 26, which comes after 21, is for the insert of a table. A refusal leaves the memory as
-- it was.
use Rattle.std.specs.Prelude.{ℕ, ◌+◌, ◌≤◌, ◌<◌, Bool, false, List, [], ◌∷◌, length, take, ltb, Ok, Err, Some, None}
use Rattle.model.specs.Inserted.{Inserted}
use Rattle.words.specs.Choice.{pick}
use Rattle.text.specs.Utf8.{first_bad, is_utf8}
use Rattle.key_order.specs.Prefix.{ends_past}
use Rattle.layout.specs.declared.refusal.Refusal.{Refusal}
use Rattle.layout.specs.declared.refusal.Refusal.TheVariants.{MemoryBroken, TableUnknown, KeyNotUtf8, KeyTooLong, NotContainer, TooManyItems, ArenaFull, NestedTooDeep}
use Rattle.layout.specs.Limits.{longest_key, most_items}
use Rattle.layout.specs.Kind.{value_kind, container_kind}
use Rattle.build_memory.specs.Memory.{table_total, item_total, room_used, table_separator, item_kind, valid, Valid, Memory, memory, Outcome, outcome}
use Rattle.build_memory.specs.Find.{find_key}
use Rattle.build_memory.specs.Item.{Stored, stored, kind_of, make_item, replace_item}
use Rattle.build_tables.specs.Table.{free_standing}
use Rattle.build_values.specs.Walk.{way_of, sum}

abbrev pub refused : Refusal → List ℕ → List ℕ → Outcome Inserted
refused why ws ar = outcome (Err why) (memory ws ar)

-- memory after the missing containers are made, and the index of the last container plus 1 (0: none)
pub record Extended : Type 0 where
  pub after : Memory
  pub parent : ℕ

abbrev pub extended : Memory → ℕ → Extended
extended after parent = record { after = after; parent = parent }

-- a container for each prefix of the key that is shorter than it, each the parent of the next
unfoldable pub containers : ℕ → List ℕ → List ℕ → Memory → ℕ → Extended
containers t key [] m parent = extended m parent
containers t key (e ∷ ends) m parent =
    pick (ltb e (length key)) (containers t key ends (make_item m t parent (take e key) (stored container_kind [] 0)) (item_total m.words + 1)) (extended m parent)

-- the item of the key itself
unfoldable pub added : Extended → ℕ → List ℕ → Stored → Memory
added l t key c = make_item l.after t l.parent key c

-- what the stages past 20 may count on
pub record Ready (ws ar : List ℕ) (t : ℕ) (key : List ℕ) : Type 0 where
  pub valid-memory : Valid ws (length ar)
  pub known : t < table_total ws
  pub short : length key ≤ longest_key

-- a new item: the containers that are missing past `from`, then the item of the key itself; 22, 23
unfoldable pub insert_new : List ℕ → List ℕ → ℕ → List ℕ → Stored → ℕ → ℕ → Outcome Inserted
insert_new ws ar t key c from parent =
    let ends = ends_past (table_separator ws t) key from in
    pick (ltb most_items (item_total ws + length ends)) (refused TooManyItems ws ar)
    (pick (ltb (length ar) (room_used ws + sum ends + length c.value)) (refused ArenaFull ws ar)
    (outcome (Ok None) (added (containers t key ends (memory ws ar) parent) t key c)))

-- an item that is there: only its value needs room; 23
unfoldable pub overwrite : List ℕ → List ℕ → ℕ → Stored → Outcome Inserted
overwrite ws ar i c =
    pick (ltb (length ar) (room_used ws + length c.value)) (refused ArenaFull ws ar)
    (outcome (Ok (Some (kind_of (item_kind ws i)))) (replace_item (memory ws ar) i c))

unfoldable pub insert_or_replace : List ℕ → List ℕ → ℕ → List ℕ → Stored → ℕ → ℕ → Outcome Inserted
insert_or_replace ws ar t key c from parent =
    let i = find_key ws ar t key in
    pick (ltb i (item_total ws)) (overwrite ws ar i c) (insert_new ws ar t key c from parent)

-- 21, then 26 where what is put in is too deep
unfoldable pub insert_below_path : List ℕ → List ℕ → ℕ → List ℕ → Stored → Bool → Outcome Inserted
insert_below_path ws ar t key c deep =
    pick (way_of ws ar t key).clear
    (pick deep (refused NestedTooDeep ws ar) (insert_or_replace ws ar t key c (way_of ws ar t key).from (way_of ws ar t key).parent))
    (refused NotContainer ws ar)

-- 8 with the offset in the key, 20
unfoldable pub keyed : List ℕ → List ℕ → List ℕ → Outcome Inserted → Outcome Inserted
keyed ws ar key next =
    pick (is_utf8 key) (pick (ltb longest_key (length key)) (refused KeyTooLong ws ar) next) (refused (KeyNotUtf8 (first_bad key)) ws ar)

unfoldable pub insert_at_key : List ℕ → List ℕ → ℕ → List ℕ → List ℕ → Outcome Inserted
insert_at_key ws ar t key value =
    pick (free_standing ws t) (keyed ws ar key (insert_below_path ws ar t key (stored value_kind value 0) false)) (refused TableUnknown ws ar)

unfoldable pub insert_value : List ℕ → List ℕ → ℕ → List ℕ → List ℕ → Outcome Inserted
insert_value ws ar t key value = pick (valid ws (length ar)) (insert_at_key ws ar t key value) (refused MemoryBroken ws ar)
