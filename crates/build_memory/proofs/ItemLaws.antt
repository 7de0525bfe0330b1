-- The laws of an item made or written again: what the stores of the code come to.
use Prim.Native.Nat.{ℕ, ◌+◌, ◌%◌}
use mathlib.Core.Path.{◌≡◌, sym, ap, ◌∙◌}
use mathlib.Core.List.{List, [], ◌∷◌, ◌++◌}
use lib.ListN.{length}
use Rattle.words.specs.Store.{put_at}
use Rattle.key_hash.specs.Hash.{hash_of}
use Rattle.words.proofs.StoreLaws.{put-append}
use Rattle.build_memory.specs.Memory.{buckets, word, head_at, item_at, item_total, room_used, memory}
use Rattle.build_memory.specs.Item.{stored, make_item, replace_item}

-- ---- one item made, or written again

pub item_made : (ws ar : List ℕ) (t parent kind guest : ℕ) (key value : List ℕ) (h older : ℕ) (w1 w2 w3 w4 a1 a2 : List ℕ)
    → h ≡ hash_of key → older ≡ word ws (head_at (h % buckets))
    → w1 ≡ put_at ws (item_at (item_total ws)) (t ∷ h ∷ older ∷ room_used ws ∷ length key ∷ parent ∷ [])
    → w2 ≡ put_at w1 (item_at (item_total ws) + 6) (kind ∷ (room_used ws + length key) ∷ length value ∷ guest ∷ [])
    → w3 ≡ put_at w2 (head_at (h % buckets)) (item_total ws ∷ [])
    → w4 ≡ put_at w3 3 ((item_total ws + 1) ∷ (room_used ws + length key + length value) ∷ [])
    → a1 ≡ put_at ar (room_used ws) key
    → a2 ≡ put_at a1 (room_used ws + length key) value
    → memory w4 a2 ≡ make_item (memory ws ar) t parent key (stored kind value guest)
unfolding make_item
item_made ws ar t parent kind guest key value h older w1 w2 w3 w4 a1 a2 eh eo e1 e2 e3 e4 e5 e6 =
    let spot = t ∷ h ∷ older ∷ room_used ws ∷ length key ∷ parent ∷ [] in
    let held = kind ∷ (room_used ws + length key) ∷ length value ∷ guest ∷ [] in
    let e12 : w2 ≡ put_at ws (item_at (item_total ws)) (spot ++ held) =
    e2 ∙ ap (λ (l : List ℕ). put_at l (item_at (item_total ws) + 6) held) e1 ∙ sym (put-append ws (item_at (item_total ws)) spot held) in
    cc

pub item_replaced : (ws ar : List ℕ) (i kind guest : ℕ) (value : List ℕ) (w1 w2 a1 : List ℕ)
    → w1 ≡ put_at ws (item_at i + 6) (kind ∷ room_used ws ∷ length value ∷ guest ∷ [])
    → w2 ≡ put_at w1 3 (item_total ws ∷ (room_used ws + length value) ∷ [])
    → a1 ≡ put_at ar (room_used ws) value
    → memory w2 a1 ≡ replace_item (memory ws ar) i (stored kind value guest)
unfolding replace_item
item_replaced ws ar i kind guest value w1 w2 a1 e1 e2 e3 = cc
