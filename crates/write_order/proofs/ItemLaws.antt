-- Laws of the lists that the writer works with: they are the hashes, the items by index and the indices of the table's definition.
use mathlib.Core.Path.{◌≡◌, refl, sym, ap, ◌∙◌}
use mathlib.Core.Logic.{⊎_elim}
use mathlib.Core.List.{List, [], ◌∷◌, map}
use Prim.Native.Nat.{ℕ, zero, suc, ◌≤◌, ◌<◌}
use native.Mathlib.Nat.{eq-or-lt_of_le, le_of_suc-le-suc}
use native.Mathlib.Omega.{arith}
use lib.ListN.{length, get_or, length-set}
use lib.Seq.{get_or-set_same, get_or-set_other}
use Rattle.key_hash.specs.declared.hash.Form.{Form}
use Rattle.key_hash.specs.Hash.{hash_of, hash_by, signed, rule_of}
use Rattle.model.specs.Table.{Rows, times, Has}
use Rattle.image.specs.Index.{key_order, hashes_of, by_bucket, by_index, index_in, laid_index}
use Rattle.image.proofs.TimesLaws.{times_here, times_cons, index_stands}
use Rattle.image.proofs.OrderLaws.{times_order}
use Rattle.image.proofs.IndexLaws.{numbering}
use Rattle.build_memory.specs.Memory.{item_hash, key_of}
use Rattle.write_order.specs.Items.{AllBelow, hash_for, hashes_in, items_at, indices_put}

map_same : (f g : ℕ → ℕ) (l : List ℕ) → ((x : ℕ) → Has l x → f x ≡ g x) → map f l ≡ map g l
map_same f g [] same = refl
map_same f g (x ∷ l) same =
    let head : f x ≡ g x = same x (omega (arith, times_here x x l refl)) in
    let rest : map f l ≡ map g l = map_same f g l (λ y h. same y (omega (arith, times_cons y x l))) in
    cc

-- ---- hashes and items of the table's definition

-- the hash that is taken, of an item whose hash word is right, is that of its key
module _ (words arena : List ℕ) (i : ℕ) where
  pub hash_for_lem : (form : Form) {key : List ℕ} → item_hash words i ≡ hash_of key → key ≡ key_of words arena i → hash_for form words arena i ≡ hash_by (rule_of form) key
  unfolding hash_for
  hash_for_lem Form.Plain stored key_is = stored
  hash_for_lem Form.Signed stored key_is = ap (hash_by signed) (sym key_is)

pub hashes_order : (form : Form) (words arena : List ℕ) (table : Rows) → ((i : ℕ) → Has table.members i → item_hash words i ≡ hash_of (table.key i))
    → ((i : ℕ) → Has table.members i → table.key i ≡ key_of words arena i)
    → hashes_in form words arena (key_order table) ≡ hashes_of (rule_of form) table
unfolding hashes_in hashes_of
hashes_order form words arena table stored same =
    map_same (hash_for form words arena) (λ (i : ℕ). hash_by (rule_of form) (table.key i)) (key_order table)
    (λ x h. let there : Has table.members x = (rw (times_order table x) at h) in hash_for_lem words arena x form (stored x there) (same x there))

pub items_index : (rule : ℕ → ℕ) (table : Rows) → items_at (key_order table) (by_bucket (hashes_of rule table)) ≡ by_index rule table
unfolding items_at by_index
items_index rule table = refl

-- ---- indices of items

module _ (indices items : List ℕ) where
  length_indices : (k : ℕ) → length (indices_put indices items k) ≡ length indices
  unfolding indices_put
  length_indices zero = refl
  length_indices (suc k) = length-set (indices_put indices items k) (get_or items k 0) k ∙ length_indices k

  pub indices_start : indices ≡ indices_put indices items 0
  unfolding indices_put
  indices_start = refl

  -- an item that stands once gets its index
  indices_at : ((j k : ℕ) → j < length items → k < length items → get_or items j 0 ≡ get_or items k 0 → j ≡ k) → AllBelow (length indices) items
      → (n k : ℕ) → n ≤ length items → k < n → get_or (indices_put indices items n) (get_or items k 0) 0 ≡ k
  unfolding indices_put AllBelow
  indices_at once below zero k h l = absurd (omega arith)
  indices_at once below (suc n) k h l =
      ⊎_elim
      (λ e. rw e (get_or-set_same (indices_put indices items n) (get_or items n 0) n 0 (omega (arith, below n (omega arith), length_indices n))))
      (λ less. get_or-set_other (indices_put indices items n) (get_or items n 0) (get_or items k 0) n 0
      (λ q. let e : k ≡ n = once k n (omega arith) (omega arith) q in omega arith)
      ∙ indices_at once below n k (omega arith) less)
      (eq-or-lt_of_le (le_of_suc-le-suc l))

-- every member's index is that of the definition
pub indices_of : (rule : ℕ → ℕ) (table : Rows) (indices : List ℕ) → ((x : ℕ) → times x table.members ≤ 1) → AllBelow (length indices) (by_index rule table)
    → (i : ℕ) → Has table.members i → get_or (indices_put indices (by_index rule table) (length (by_index rule table))) i 0 ≡ laid_index rule table i
unfolding laid_index
indices_of rule table indices one below i h =
    let n = numbering rule table one in
    let s = index_stands (by_index rule table) i (n.all i h) in
    let at = indices_at indices (by_index rule table) (λ j k a b e. n.once j k (omega (arith, n.size)) (omega (arith, n.size)) e) below (length (by_index rule table)) (index_in (by_index rule table) i) (omega arith) s.within in
    ap (λ (x : ℕ). get_or (indices_put indices (by_index rule table) (length (by_index rule table))) x 0) (sym s.is) ∙ at
