-- Laws of the links among a builder's words: read, stored, and words that differ in them alone.
use mathlib.Core.Path.{◌≡◌, refl, sym, ap, ◌∙◌}
use mathlib.Core.List.{List}
use Prim.Native.Nat.{ℕ, ◌+◌, ◌≤◌, ◌<◌}
use native.Mathlib.Omega.{arith}
use lib.ListN.{length, get_or, set, take, drop}
use lib.Seq.{get_or-take, get_or-drop, take-set-lt, take-set-le, drop-set-lt, drop-set-add}
use borrow.Rule.Slice.PartMut.{put_mid, post_of, Post-is, put_same}
use Rattle.words.proofs.StoreLaws.{length_part}
use Rattle.key_hash.specs.declared.hash.Form.{Form}
use Rattle.key_hash.specs.Hash.{hash_by, signed}
use Rattle.layout.specs.Limits.{most_items}
use Rattle.build_memory.specs.Memory.{word, links_from, least_words, item_at, key_of}
use Rattle.write_order.specs.Items.{hash_for}
use Rattle.write_order.specs.Chain.{Empty, ButLinks, links_of}
use Rattle.write_order.proofs.ChainLaws.{empty_same}

-- ---- the links among the words

module _ (ws : List ℕ) (long : least_words ≤ length ws) where
  pub links_long : length (links_of ws) ≡ most_items
  links_long = length_part ws links_from most_items long

  pub link_at : (x : ℕ) → x < most_items → get_or (links_of ws) x 0 ≡ get_or ws (links_from + x) 0
  link_at x h = get_or-take most_items (drop links_from ws) x 0 h ∙ get_or-drop links_from ws x 0

pub link_set : (ws : List ℕ) (x v : ℕ) → x < most_items → links_of (set ws (links_from + x) v) ≡ set (links_of ws) x v
link_set ws x v h = ap (take most_items) (drop-set-add links_from ws x v) ∙ take-set-lt most_items (drop links_from ws) x v h

-- ---- words that differ in their links alone

pub but_none : (ws : List ℕ) → ButLinks ws ws
unfolding ButLinks
but_none ws = (refl, refl)

pub but_set : (ws ws' : List ℕ) (x v : ℕ) → x < most_items → ButLinks ws ws' → ButLinks ws (set ws' (links_from + x) v)
unfolding ButLinks
but_set ws ws' x v h b = (
  take-set-le links_from ws' (links_from + x) v (omega arith) ∙ b.0,
  drop-set-lt least_words ws' (links_from + x) v (omega arith) ∙ b.1,
)

pub but_then : (ws ws' ws'' : List ℕ) → ButLinks ws ws' → ButLinks ws' ws'' → ButLinks ws ws''
unfolding ButLinks
but_then ws ws' ws'' a b = (b.0 ∙ a.0, b.1 ∙ a.1)

module _ (ws ws' ar : List ℕ) (b : ButLinks ws ws') where
  but_word : (k : ℕ) → k < links_from → word ws' k ≡ word ws k
  unfolding ButLinks
  but_word k h = sym (get_or-take links_from ws' k 0 h) ∙ ap (λ (l : List ℕ). get_or l k 0) b.0 ∙ get_or-take links_from ws k 0 h

  pub but_key : (i : ℕ) → i < most_items → key_of ws' ar i ≡ key_of ws ar i
  unfolding key_of
  but_key i h = rw (but_word (item_at i + 3) (omega arith), but_word (item_at i + 4) (omega arith))

  pub but_hash : (form : Form) (i : ℕ) → i < most_items → hash_for form ws' ar i ≡ hash_for form ws ar i
  unfolding hash_for
  but_hash Form.Plain i h = but_word (item_at i + 1) (omega arith)
  but_hash Form.Signed i h = ap (hash_by signed) (but_key i h)

-- with empty links, before and after, they are the same
pub but_empty : (ws ws' l : List ℕ) → least_words ≤ length ws → ButLinks ws ws' → length l ≡ most_items → Empty l → Empty (links_of ws) → put_mid links_from most_items ws' l ≡ ws
unfolding ButLinks
but_empty ws ws' l long b size e f =
    let same : l ≡ links_of ws = empty_same l (links_of ws) (size ∙ sym (links_long ws long)) e f in
    let behind : post_of links_from most_items ws' ≡ post_of links_from most_items ws = Post-is links_from least_words ws' (omega arith) ∙ b.1 ∙ sym (Post-is links_from least_words ws (omega arith)) in
    rw (same, b.0, behind) (put_same links_from most_items ws)
