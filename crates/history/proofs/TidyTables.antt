-- The fresh start is tidy; so is memory in which only words of tables changed.
use Prim.Native.Nat.{ℕ, ◌+◌, ◌%◌, ◌≤◌, ◌<◌}
use native.Mathlib.Omega.{arith}
use mathlib.Core.Path.{◌≡◌, sym, ap, ◌∙◌, fun_ext}
use mathlib.Core.List.{List, [], ◌∷◌}
use lib.ListN.{length}
use Rattle.words.specs.Store.{put_at, copies}
use Rattle.key_hash.specs.Hash.{hash_of}
use Rattle.words.proofs.StoreLaws.{length-put, get_put, get_before, length-copies, get_copies}
use Rattle.layout.specs.Item.{no_item}
use Rattle.build_memory.specs.Memory.{word, buckets, links, least_words, links_from, heads_from, item_at, head_at, link_at, table_total, item_total, room_used, key_of, fresh_words}
use Rattle.layout.specs.Limits.{most_tables}
use Rattle.history.specs.Items.{item_of}
use Rattle.history.specs.Tidy.{last_in, bucket_of, Tidy}
use Rattle.history.proofs.TidySearch.{last_cong}

module _ (ws w ar : List ℕ) (tidy : Tidy ws ar) (same_length : length w ≡ length ws) (w0 : word w 0 ≡ word ws 0) (w1 : word w 1 ≡ word ws 1)
    (w2 : table_total w ≤ most_tables) (w3 : item_total w ≡ item_total ws) (w4 : room_used w ≡ room_used ws) (high : (p : ℕ) → 264 ≤ p → word w p ≡ word ws p) where
  pub low_item : (i : ℕ) → item_of w ar i ≡ item_of ws ar i
  unfolding item_of key_of
  low_item i =
      let e0 = high (item_at i + 0) (omega arith) in
      let e3 = high (item_at i + 3) (omega arith) in
      let e4 = high (item_at i + 4) (omega arith) in
      let e5 = high (item_at i + 5) (omega arith) in
      let e6 = high (item_at i + 6) (omega arith) in
      let e7 = high (item_at i + 7) (omega arith) in
      let e8 = high (item_at i + 8) (omega arith) in
      let e9 = high (item_at i + 9) (omega arith) in
      cc

  pub low_items : item_of w ar ≡ item_of ws ar
  low_items = fun_ext low_item

  low_key : (i : ℕ) → key_of w ar i ≡ key_of ws ar i
  unfolding key_of
  low_key i =
      let e3 = high (item_at i + 3) (omega arith) in
      let e4 = high (item_at i + 4) (omega arith) in
      cc

  same_bucket : (j : ℕ) → bucket_of w j ≡ bucket_of ws j
  same_bucket j = ap (λ (x : ℕ). x % buckets) (high (item_at j + 1) (omega arith))

  same_last : (b j : ℕ) → last_in (bucket_of ws) b j ≡ last_in (bucket_of w) b j
  same_last b j = last_cong (bucket_of ws) (bucket_of w) b j (λ x l. sym (same_bucket x))

  pub low_tidy : Tidy w ar
  low_tidy =
      let s = tidy.valid-memory in
      record {
        valid-memory = record { long = omega arith; words = omega arith; room = omega arith; tables = w2; items = omega arith; used = omega arith };
        keys = λ i l. omega (arith, tidy.keys i (omega arith), high (item_at i + 3) (omega arith), high (item_at i + 4) (omega arith));
        values = λ i l. omega (arith, tidy.values i (omega arith), high (item_at i + 7) (omega arith), high (item_at i + 8) (omega arith));
        hashes = λ i l. high (item_at i + 1) (omega arith) ∙ tidy.hashes i (omega arith) ∙ ap hash_of (sym (low_key i));
        heads = λ b h. high (head_at b) (omega arith) ∙ tidy.heads b h ∙ same_last b (item_total ws) ∙ ap (last_in (bucket_of w) b) (sym w3);
        olders = λ i l. high (item_at i + 2) (omega arith) ∙ tidy.olders i (omega arith) ∙ same_last (bucket_of ws i) i ∙ ap (λ (b : ℕ). last_in (bucket_of w) b i) (sym (same_bucket i));
        clear = λ j h. high (link_at j) (omega arith) ∙ tidy.clear j h;
      }

-- ---- the fresh start

module _ (ws ar : List ℕ) (long : least_words ≤ length ws) where
  abbrev row : List ℕ
  row = length ws ∷ length ar ∷ 0 ∷ 0 ∷ 0 ∷ []

  abbrev headed : List ℕ
  headed = put_at ws 0 row

  abbrev marks : List ℕ
  marks = copies buckets no_item

  abbrev chained : List ℕ
  chained = put_at headed heads_from marks

  many : length marks ≡ buckets
  many = length-copies buckets no_item

  headed-length : length headed ≡ length ws
  headed-length = length-put ws 0 row

  chained_length : length chained ≡ length ws
  chained_length = length-put headed heads_from marks ∙ headed-length

  abbrev fresh : List ℕ
  fresh = fresh_words ws (length ar)

  pub fresh-length : length fresh ≡ length ws
  unfolding fresh_words
  fresh-length = length-put chained links_from marks ∙ chained_length

  pub fresh-word : (j : ℕ) → j < 5 → word fresh (0 + j) ≡ word row j
  unfolding fresh_words
  fresh-word j h =
      get_before chained links_from marks (0 + j) (omega arith) ∙ get_before headed heads_from marks (0 + j) (omega arith) ∙ get_put ws 0 row j (omega arith) h

  fresh_head : (b : ℕ) → b < buckets → word fresh (head_at b) ≡ no_item
  unfolding fresh_words
  fresh_head b h =
      get_before chained links_from marks (head_at b) (omega arith)
      ∙ get_put headed heads_from marks b (omega (arith, headed-length, many)) (omega (arith, many)) ∙ get_copies buckets no_item b h

  fresh_link : (j : ℕ) → j < links → word fresh (link_at j) ≡ no_item
  unfolding fresh_words
  fresh_link j h = get_put chained links_from marks j (omega (arith, chained_length, many)) (omega (arith, many)) ∙ get_copies buckets no_item j h

  pub fresh-three : item_total fresh ≡ 0
  fresh-three = fresh-word 3 (omega arith)

  pub fresh-two : table_total fresh ≡ 0
  fresh-two = fresh-word 2 (omega arith)

  pub fresh_tidy : Tidy fresh ar
  unfolding last_in
  fresh_tidy =
      let n = fresh-length in
      let w0 : word fresh 0 ≡ length ws = fresh-word 0 (omega arith) in
      let w1 : word fresh 1 ≡ length ar = fresh-word 1 (omega arith) in
      let w2 = fresh-two in
      let w3 = fresh-three in
      let w4 : room_used fresh ≡ 0 = fresh-word 4 (omega arith) in
      record {
        valid-memory = record { long = omega arith; words = omega arith; room = omega arith; tables = omega arith; items = omega arith; used = omega arith };
        keys = λ i l. absurd (omega arith);
        values = λ i l. absurd (omega arith);
        hashes = λ i l. absurd (let f : i < item_total fresh = l in omega arith);
        heads = λ b h. fresh_head b h ∙ ap (last_in (bucket_of fresh) b) (sym w3);
        olders = λ i l. absurd (let f : i < item_total fresh = l in omega arith);
        clear = fresh_link;
      }
