-- Parts of lists: the parts of a front, two parts that meet, and when a list ends in another.
use Prim.Native.Nat.{ℕ, ◌+◌, ◌-◌, ◌≤◌}
use mathlib.Core.Path.{◌≡◌, sym, ap, ◌∙◌}
use mathlib.Core.List.{List, [], ◌∷◌, ◌++◌}
use mathlib.Core.Bool.{true, false}
use native.Mathlib.Omega.{arith}
use lib.ListN.{length, take, drop}
use lib.Seq.{take-add, drop-drop, drop-append-add}
use lib.Dec.{eqb, leb}
use borrow.Author.Tests.{le-leb, ne_eqb}
use Rattle.words.specs.Store.{part}
use Rattle.words.proofs.ChoiceLaws.{both_hold, not_both}
use Rattle.words.proofs.StoreLaws.{part-part}
use Rattle.key_order.specs.Compare.{same_bytes, ends_at}
use Rattle.key_order.proofs.CompareLaws.{same_equal, equal_same}

-- a part of a front is a part of the whole
pub part_front : (l : List ℕ) (m at n : ℕ) → at + n ≤ m → part (take m l) at n ≡ part l at n
part_front l m at n h =
    let e : 0 + at ≡ at = omega arith in
    part-part l 0 m at n h ∙ ap (λ (i : ℕ). part l i n) e

-- two parts that meet
pub part_join : (l : List ℕ) (at m n : ℕ) → part l at (m + n) ≡ part l at m ++ part l (at + m) n
part_join l at m n = take-add m n (drop at l) ∙ ap (λ (z : List ℕ). part l at m ++ take n z) (drop-drop m at l)

-- the end of two lists joined and cut lies in the second
pub part-tail : (a f : List ℕ) (size rest n : ℕ) → length a ≡ size - rest → rest ≤ size → n ≤ rest
    → part (take size (a ++ f)) (size - n) n ≡ part f (rest - n) n
part-tail a f size rest n long within few =
    let at : size - n ≡ length a + (rest - n) = omega arith in
    part_front (a ++ f) size (size - n) n (omega arith) ∙ ap (λ (i : ℕ). part (a ++ f) i n) at ∙ ap (take n) (drop-append-add a f (rest - n))

-- a list is empty just where its length is 0
pub empty_length : (l : List ℕ) {n : ℕ} → length l ≡ n → eqb n 0 ≡ same_bytes [] l
unfolding same_bytes
empty_length [] e = rw (sym e)
empty_length (x ∷ l) {n} e = ne_eqb n 0 (λ z. omega arith)

-- a list ends in another where its last part is that, and not where parts at the same offset differ
pub ends_part : (l : List ℕ) (n : ℕ) (f : List ℕ) → length f ≤ n → part l (n - length f) (length f) ≡ f → ends_at l n f ≡ true
unfolding ends_at
ends_part l n f fits same = both_hold (le-leb (length f) n fits) (equal_same _ _ same)

pub ends_differs : (l : List ℕ) (n : ℕ) (f : List ℕ) (at m : ℕ) → length f ≤ n → at + m ≤ length f
    → same_bytes (part l (n - length f + at) m) (part f at m) ≡ false → ends_at l n f ≡ false
unfolding ends_at
ends_differs l n f at m fits within other =
    not_both (leb (length f) n) (same_bytes (part l (n - length f) (length f)) f) (λ _ e.
    let same : part l (n - length f + at) m ≡ part f at m =
    sym (part-part l (n - length f) (length f) at m within) ∙ ap (λ (z : List ℕ). part z at m) (same_equal _ _ e) in
    let yes-same : same_bytes (part l (n - length f + at) m) (part f at m) ≡ true = equal_same _ _ same in
    let z : ◌≡◌ {A = ℕ} 0 1 = cc in
    omega arith)
