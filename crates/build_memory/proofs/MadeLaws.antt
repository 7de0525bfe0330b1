-- What stands where once an item is made, or written again: the words, and stretches of the arena.
use Prim.Native.Nat.{ℕ, ◌+◌, ◌%◌, ◌≤◌, ◌<◌}
use native.Mathlib.Nat.{add-zero, add_assoc, mod-lt}
use native.Mathlib.Omega.{arith}
use native.Mathlib.Decide.{dec_lt}
use mathlib.Core.Path.{◌≡◌, sym, ap, ◌∙◌}
use mathlib.Core.List.{List, [], ◌∷◌}
use lib.ListN.{length}
use Rattle.words.specs.Store.{part, put_at}
use Rattle.key_hash.specs.Hash.{hash_of}
use Rattle.words.proofs.StoreLaws.{length-put, get_put, get_before, get_after, part-put, part-before}
use Rattle.layout.specs.Limits.{most_items}
use Rattle.build_memory.specs.Memory.{least_words, heads_from, buckets, word, head_at, item_at, item_total, room_used, Memory, memory}
use Rattle.build_memory.specs.Item.{Stored, make_item}

-- ---- an item made

module _ (ws ar : List ℕ) (t parent : ℕ) (key : List ℕ) (c : Stored) where
  abbrev made : Memory
  made = make_item (memory ws ar) t parent key c

  abbrev bucket : ℕ
  bucket = hash_of key % buckets

  abbrev row : List ℕ
  row =
      t ∷ hash_of key ∷ word ws (head_at bucket) ∷ room_used ws ∷ length key ∷ parent ∷ c.kind ∷ (room_used ws + length key) ∷ length c.value ∷ c.guest ∷ []

  abbrev one : List ℕ
  one = put_at ws (item_at (item_total ws)) row

  abbrev two : List ℕ
  two = put_at one (head_at bucket) (item_total ws ∷ [])

  abbrev counts : List ℕ
  counts = (item_total ws + 1) ∷ (room_used ws + length key + length c.value) ∷ []

  one-length : length one ≡ length ws
  one-length = length-put ws (item_at (item_total ws)) row

  two-length : length two ≡ length ws
  two-length = length-put one (head_at bucket) (item_total ws ∷ []) ∙ one-length

  pub made_length : length made.words ≡ length ws
  unfolding make_item
  made_length = length-put two 3 counts ∙ two-length

  pub made_arena : length made.arena ≡ length ar
  unfolding make_item
  made_arena = length-put (put_at ar (room_used ws) key) (room_used ws + length key) c.value ∙ length-put ar (room_used ws) key

  module _ (long : least_words ≤ length ws) (few : item_total ws < most_items) where
    low_bucket : bucket < buckets
    low_bucket = mod-lt (hash_of key) (omega arith)

    count_at : (j : ℕ) → j < 2 → word made.words (3 + j) ≡ word counts j
    unfolding make_item
    count_at j h = get_put two 3 counts j (omega (arith, two-length)) h

    pub made_items : item_total made.words ≡ item_total ws + 1
    made_items = count_at 0 (omega arith)

    pub made_used : room_used made.words ≡ room_used ws + length key + length c.value
    made_used = count_at 1 (omega arith)

    -- a word of the header or of a table is as it was
    pub made_low : (p : ℕ) → p < heads_from → (p ≡ 3 → ⊥) → (p ≡ 4 → ⊥) → word made.words p ≡ word ws p
    unfolding make_item
    made_low p l n3 n4 =
        by_side (dec_lt p 3) ∙ get_before one (head_at bucket) (item_total ws ∷ []) p (omega arith) ∙ get_before ws (item_at (item_total ws)) row p (omega arith)
      where
        by_side : Dec (p < 3) → word (put_at two 3 counts) p ≡ word two p
        by_side (yes b) = get_before two 3 counts p b
        by_side (no b) = get_after two 3 counts p (omega arith)

    behind : (p : ℕ) → 5 ≤ p → (p ≡ head_at bucket → ⊥) → word made.words p ≡ word one p
    unfolding make_item
    behind p h ne = get_after two 3 counts p h ∙ by_side (dec_lt p (head_at bucket))
      where
        by_side : Dec (p < head_at bucket) → word two p ≡ word one p
        by_side (yes b) = get_before one (head_at bucket) (item_total ws ∷ []) p b
        by_side (no b) = get_after one (head_at bucket) (item_total ws ∷ []) p (omega arith)

    -- the heads: that of its bucket is the new item, any other is as it was
    pub made_head : word made.words (head_at bucket) ≡ item_total ws
    unfolding make_item
    made_head =
        get_after two 3 counts (head_at bucket) (omega arith) ∙ ap (word two) (sym (add-zero (head_at bucket)))
        ∙ get_put one (head_at bucket) (item_total ws ∷ []) 0 (omega (arith, one-length, low_bucket)) (omega arith)

    pub other_head : (b : ℕ) → b < buckets → (b ≡ bucket → ⊥) → word made.words (head_at b) ≡ word ws (head_at b)
    other_head b h ne =
        behind (head_at b) (omega arith) (λ (e : head_at b ≡ head_at bucket). ne (omega arith)) ∙ get_before ws (item_at (item_total ws)) row (head_at b) (omega arith)

    -- the made record reads back, and any other is as it was
    pub its_word : (f : ℕ) → f < 10 → word made.words (item_at (item_total ws) + f) ≡ word row f
    its_word f h =
        behind (item_at (item_total ws) + f) (omega arith) (λ (e : item_at (item_total ws) + f ≡ head_at bucket). omega (arith, low_bucket))
        ∙ get_put ws (item_at (item_total ws)) row f (omega arith) h

    pub other_word : (j f : ℕ) → f < 12 → j < item_total ws → word made.words (item_at j + f) ≡ word ws (item_at j + f)
    other_word j f h l =
        behind (item_at j + f) (omega arith) (λ (e : item_at j + f ≡ head_at bucket). omega (arith, low_bucket))
        ∙ get_before ws (item_at (item_total ws)) row (item_at j + f) (omega arith)

    -- the words behind the items are as they were
    pub made_behind : (p : ℕ) → item_at most_items ≤ p → word made.words p ≡ word ws p
    made_behind p h =
        behind p (omega arith) (λ (e : p ≡ head_at bucket). omega (arith, low_bucket)) ∙ get_after ws (item_at (item_total ws)) row p (omega arith)

  -- a stretch within the room used is as it was, and key and value read back
  pub old_part : (at n : ℕ) → at + n ≤ room_used ws → part made.arena at n ≡ part ar at n
  unfolding make_item
  old_part at n h =
      part-before (put_at ar (room_used ws) key) (room_used ws + length key) c.value at n (omega arith) ∙ part-before ar (room_used ws) key at n h

  module _ (room : room_used ws + length key + length c.value ≤ length ar) where
    pub key_part : part made.arena (room_used ws) (length key) ≡ key
    unfolding make_item
    key_part =
        part-before (put_at ar (room_used ws) key) (room_used ws + length key) c.value (room_used ws) (length key) (omega arith)
        ∙ part-put ar (room_used ws) key (omega arith)

    pub value-part : part made.arena (room_used ws + length key) (length c.value) ≡ c.value
    unfolding make_item
    value-part = part-put (put_at ar (room_used ws) key) (room_used ws + length key) c.value (omega (arith, length-put ar (room_used ws) key))

-- the same of the memory that a call left
pub record Made (ws ar w a : List ℕ) (cost : ℕ) : Type 0 where
  pub words : length w ≡ length ws
  pub arena : length a ≡ length ar
  pub count : item_total w ≡ item_total ws + 1
  pub used : room_used w ≡ room_used ws + cost

pub made_all : (ws ar : List ℕ) (t parent : ℕ) (key : List ℕ) (c : Stored) (w a : List ℕ) → least_words ≤ length ws → item_total ws < most_items
    → memory w a ≡ make_item (memory ws ar) t parent key c → Made ws ar w a (length key + length c.value)
made_all ws ar t parent key c w a long few e =
    let f = ap (λ (m : Memory). m.words) e in
    let g = ap (λ (m : Memory). m.arena) e in
    record {
      words = ap length f ∙ made_length ws ar t parent key c;
      arena = ap length g ∙ made_arena ws ar t parent key c;
      count = ap (λ (l : List ℕ). word l 3) f ∙ made_items ws ar t parent key c long few;
      used = ap (λ (l : List ℕ). word l 4) f ∙ made_used ws ar t parent key c long few ∙ add_assoc (room_used ws) (length key) (length c.value);
    }
