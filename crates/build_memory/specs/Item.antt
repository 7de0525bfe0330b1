-- Items made and written again.
use Rattle.std.specs.Prelude.{ℕ, ◌+◌, ◌%◌, List, [], ◌∷◌, length, eqb}
use Rattle.words.specs.Choice.{pick}
use Rattle.words.specs.Store.{put_at}
use Rattle.key_hash.specs.Hash.{hash_of}
use Rattle.layout.specs.declared.kind.Kind.{Kind}
use Rattle.layout.specs.Kind.{value_kind, table_kind}
use Rattle.build_memory.specs.Memory.{word, buckets, head_at, item_at, item_total, room_used, Memory, memory}

-- what an item's record holds: its kind, the bytes of its value, and the table it holds
pub record Stored : Type 0 where
  pub kind : ℕ
  pub value : List ℕ
  pub guest : ℕ

abbrev pub stored : ℕ → List ℕ → ℕ → Stored
stored kind value guest = record { kind = kind; value = value; guest = guest }

-- the kind that a record's word says; one that is not known counts as a container
unfoldable pub kind_of : ℕ → Kind
kind_of w = pick (eqb w value_kind) Kind.Value (pick (eqb w table_kind) Kind.Table Kind.Container)

-- the next item, at the head of its bucket: its key and its value are stored where the room used ends
unfoldable pub make_item : Memory → ℕ → ℕ → List ℕ → Stored → Memory
make_item m t parent key c =
    let ws = m.words in
    let n = item_total ws in
    let room = room_used ws in
    let head = head_at (hash_of key % buckets) in
    memory
    (put_at (put_at (put_at ws
    (item_at n) (t ∷ hash_of key ∷ word ws head ∷ room ∷ length key ∷ parent ∷ c.kind ∷ (room + length key) ∷ length c.value ∷ c.guest ∷ []))
    head (n ∷ []))
    3 ((n + 1) ∷ (room + length key + length c.value) ∷ []))
    (put_at (put_at m.arena room key) (room + length key) c.value)

-- item i holds something else: its value is stored where the room used ends; its key, its parent and its index stay
unfoldable pub replace_item : Memory → ℕ → Stored → Memory
replace_item m i c =
    let ws = m.words in
    let room = room_used ws in
    memory
    (put_at (put_at ws (item_at i + 6) (c.kind ∷ room ∷ length c.value ∷ c.guest ∷ [])) 3 (item_total ws ∷ (room + length c.value) ∷ []))
    (put_at m.arena room c.value)
