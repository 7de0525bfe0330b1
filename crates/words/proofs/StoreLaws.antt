-- The laws of a store: its length, what is read where it was made and elsewhere, stores joined and stores apart. Only reading what was
-- stored asks that it fits.
use mathlib.Core.Path.{◌≡◌, refl, sym, ap, ◌∙◌}
use mathlib.Core.List.{List, [], ◌∷◌, ◌++◌, append_assoc}
use Prim.Native.Nat.{ℕ, zero, suc, ◌+◌, ◌-◌, ◌*◌, ◌≤◌, ◌<◌}
use native.Mathlib.Nat.{add-zero, add-suc, suc-add, suc-mul}
use native.Mathlib.Numerals.{add-one}
use native.Mathlib.Omega.{arith}
use lib.ListN.{length, get_or, take, drop, set, length-set, length-drop, length-replicate, get_or-replicate, take-append-drop}
use lib.Seq.{sets, sets-eq, set_comm, take-set-lt, take-set-le, drop-set-lt, drop-set-add, take-suc, take_at, drop_at, take_all, take-take, drop-drop, length-take-le, get_or-take, get_or-drop}
use Rattle.std.proofs.lemmas.Grind.{replicate_next}
use borrow.Rule.Slice.PartMut.{put_mid}
use Rattle.std.specs.Simd.{first_chunks}
use Rattle.words.specs.Store.{part, put_at, copies, zeros}

-- ---- one store

pub put-none : {A : Type 0} (l : List A) (at : ℕ) → put_at l at [] ≡ l
unfolding put_at
put-none l at = refl

pub put_one : {A : Type 0} (l : List A) (at : ℕ) (v : A) → put_at l at (v ∷ []) ≡ set l at v
unfolding put_at
put_one l at v = refl

-- a store keeps the length
pub length-put : (l : List ℕ) (at : ℕ) (vs : List ℕ) → length (put_at l at vs) ≡ length l
unfolding put_at
length-put l at [] = refl
length-put l at (v ∷ vs) = length-put (set l at v) (suc at) vs ∙ length-set l at v

put-sets : {A : Type 0} (l : List A) (at : ℕ) (vs : List A) → put_at l at vs ≡ sets l at vs
unfolding put_at
put-sets l at [] = refl
put-sets l at (v ∷ vs) = put-sets (set l at v) (suc at) vs

-- where it fits: what stood before it, what is stored, and what stood behind it
pub put_parts : {A : Type 0} (l : List A) (at : ℕ) (vs : List A) → at + length vs ≤ length l → put_at l at vs ≡ take at l ++ vs ++ drop (at + length vs) l
put_parts l at vs fits = put-sets l at vs ∙ sets-eq vs l at fits

-- ---- reading after a store

-- what was stored is there
pub part-put : (l : List ℕ) (at : ℕ) (vs : List ℕ) → at + length vs ≤ length l → part (put_at l at vs) at (length vs) ≡ vs
part-put l at vs fits =
    rw (put_parts l at vs fits, append_assoc, drop_at (take at l) (vs ++ drop (at + length vs) l) at (length-take-le at l (omega arith)))
    (take_at vs (drop (at + length vs) l) (length vs) refl)

-- what lies before it stays
pub part-before : (l : List ℕ) (at : ℕ) (vs : List ℕ) (k n : ℕ) → k + n ≤ at → part (put_at l at vs) k n ≡ part l k n
unfolding put_at
part-before l at [] k n h = refl
part-before l at (v ∷ vs) k n h =
    let gap : at ≡ k + (at - k) = omega arith in
    part-before (set l at v) (suc at) vs k n (omega arith)
    ∙ ap (λ (i : ℕ). take n (drop k (set l i v))) gap
    ∙ ap (take n) (drop-set-add k l (at - k) v)
    ∙ take-set-le n (drop k l) (at - k) v (omega arith)

-- what lies behind it stays
pub drop_after : (l : List ℕ) (at : ℕ) (vs : List ℕ) (k : ℕ) → at + length vs ≤ k → drop k (put_at l at vs) ≡ drop k l
unfolding put_at
drop_after l at [] k h = refl
drop_after l at (v ∷ vs) k h = drop_after (set l at v) (suc at) vs k (omega arith) ∙ drop-set-lt k l at v (omega arith)

pub part_after : (l : List ℕ) (at : ℕ) (vs : List ℕ) (k n : ℕ) → at + length vs ≤ k → part (put_at l at vs) k n ≡ part l k n
part_after l at vs k n h = ap (take n) (drop_after l at vs k h)

pub take-before : (l : List ℕ) (at : ℕ) (vs : List ℕ) (n : ℕ) → n ≤ at → take n (put_at l at vs) ≡ take n l
take-before l at vs n h = part-before l at vs 0 n (omega arith)

-- one element: stored, before, behind
pub get_put : (l : List ℕ) (at : ℕ) (vs : List ℕ) (j : ℕ) → at + length vs ≤ length l → j < length vs → get_or (put_at l at vs) (at + j) 0 ≡ get_or vs j 0
get_put l at vs j fits h =
    sym (get_or-drop at (put_at l at vs) j 0) ∙ sym (get_or-take (length vs) (drop at (put_at l at vs)) j 0 h) ∙ ap (λ (m : List ℕ). get_or m j 0) (part-put l at vs fits)

pub get_before : (l : List ℕ) (at : ℕ) (vs : List ℕ) (i : ℕ) → i < at → get_or (put_at l at vs) i 0 ≡ get_or l i 0
get_before l at vs i h =
    sym (get_or-take at (put_at l at vs) i 0 h) ∙ ap (λ (m : List ℕ). get_or m i 0) (take-before l at vs at (omega arith)) ∙ get_or-take at l i 0 h

pub get_after : (l : List ℕ) (at : ℕ) (vs : List ℕ) (i : ℕ) → at + length vs ≤ i → get_or (put_at l at vs) i 0 ≡ get_or l i 0
get_after l at vs i h =
    let i0 : i ≡ i + 0 = omega arith in
    ap (λ (k : ℕ). get_or (put_at l at vs) k 0) i0 ∙ sym (get_or-drop i (put_at l at vs) 0 0) ∙ ap (λ (m : List ℕ). get_or m 0 0) (drop_after l at vs i h)
    ∙ get_or-drop i l 0 0 ∙ ap (λ (k : ℕ). get_or l k 0) (sym i0)

-- ---- several stores

-- a second store directly behind a first is one store of both
pub put-append : {A : Type 0} (l : List A) (at : ℕ) (a b : List A) → put_at l at (a ++ b) ≡ put_at (put_at l at a) (at + length a) b
unfolding put_at
put-append l at [] b = ap (λ (k : ℕ). put_at l k b) (sym (add-zero at))
put-append l at (v ∷ a) b =
    put-append (set l at v) (suc at) a b
    ∙ ap (λ (k : ℕ). put_at (put_at (set l at v) (suc at) a) k b) (suc-add at (length a) ∙ sym (add-suc at (length a)))

-- a store right behind another is one store of both
pub put_then : (l : List ℕ) (at : ℕ) (a b : List ℕ) {m n : List ℕ} {mid : ℕ} → mid ≡ at + length a → m ≡ put_at l at a → n ≡ put_at m mid b → n ≡ put_at l at (a ++ b)
put_then l at a b e p q = q ∙ rw (p, e, put-append)

-- one element more
pub put_snoc : {A : Type 0} (l : List A) (at : ℕ) (a : List A) (v : A) → put_at l at (a ++ (v ∷ [])) ≡ set (put_at l at a) (at + length a) v
put_snoc l at a v = put-append l at a (v ∷ []) ∙ put_one (put_at l at a) (at + length a) v

-- one element set before a store
put-set : (l : List ℕ) (i j v : ℕ) (b : List ℕ) → i < j → put_at (set l i v) j b ≡ set (put_at l j b) i v
unfolding put_at
put-set l i j v [] h = refl
put-set l i j v (w ∷ b) h =
    ap (λ (m : List ℕ). put_at m (suc j) b) (set_comm l i j v w (λ e. omega arith)) ∙ put-set (set l j w) i (suc j) v b (omega arith)

-- two stores apart: the one that is made first has no bearing
pub put_comm : (l : List ℕ) (i : ℕ) (a : List ℕ) (j : ℕ) (b : List ℕ) → i + length a ≤ j → put_at (put_at l i a) j b ≡ put_at (put_at l j b) i a
unfolding put_at
put_comm l i [] j b h = refl
put_comm l i (v ∷ a) j b h =
    put_comm (set l i v) (suc i) a j b (omega (arith, add-suc i (length a)))
    ∙ ap (λ (m : List ℕ). put_at m (suc i) a) (put-set l i j v b (omega (arith, add-suc i (length a))))

-- a store into a front part that is lent by itself, seen in the whole
pub put_front : (n : ℕ) (l : List ℕ) (at : ℕ) (vs : List ℕ) → at + length vs ≤ n → put_at (take n l) at vs ++ drop n l ≡ put_at l at vs
unfolding put_at
put_front n l at [] h = take-append-drop n l
put_front n l at (v ∷ vs) h =
    let less : at < n = omega (arith, add-suc at (length vs)) in
    ap (λ (m : List ℕ). put_at m (suc at) vs ++ drop n l) (sym (take-set-lt n l at v less))
    ∙ ap (λ (m : List ℕ). put_at (take n (set l at v)) (suc at) vs ++ m) (sym (drop-set-lt n l at v less))
    ∙ put_front n (set l at v) (suc at) vs (omega (arith, add-suc at (length vs), suc-add at (length vs)))

-- ---- a store through a part that is lent

pub put_lent : {A : Type 0} (l : List A) (at k : ℕ) (vs ys : List A) → ys ≡ vs → k ≡ length vs → at + length vs ≤ length l → put_mid at k l ys ≡ put_at l at vs
put_lent {A = A} l at k vs ys p q fits =
    rw (p, q) (ap (λ (m : List A). take at l ++ (vs ++ m)) (drop-drop (length vs) at l) ∙ sym (append_assoc (take at l) vs (drop (at + length vs) l)) ∙ sym (put_parts l at vs fits))

-- ---- the copy loop: the first j elements are stored

pub copy_start : {A : Type 0} (l : List A) (at : ℕ) (src : List A) → l ≡ put_at l at (take 0 src)
copy_start l at src = sym (put-none l at)

pub copy_turn : {A : Type 0} (l : List A) (at : ℕ) (src : List A) (j : ℕ) (v : A) → j < length src
    → set (put_at l at (take j src)) (at + j) (get_or src j v) ≡ put_at l at (take (j + 1) src)
copy_turn l at src j v h =
    let size : length (take j src) ≡ j = length-take-le j src (omega arith) in
    rw (add-one, take-suc src j v h, put_snoc, size)

pub copy_end : {A : Type 0} (l : List A) (at : ℕ) (src : List A) (j : ℕ) → length src ≤ j → put_at l at (take j src) ≡ put_at l at src
copy_end l at src j h = rw (take_all j src h)

-- ---- copies of one element

pub length-copies : {A : Type 0} (n : ℕ) (v : A) → length (copies n v) ≡ n
unfolding copies
length-copies n v = length-replicate n v

pub get_copies : (n v i : ℕ) → i < n → get_or (copies n v) i 0 ≡ v
unfolding copies
get_copies n v i h = get_or-replicate n i v 0 h

-- one more, and all
pub fill_turn : (l : List ℕ) (at n v i : ℕ) → i < n → set (put_at l at (take i (copies n v))) (at + i) v ≡ put_at l at (take (i + 1) (copies n v))
fill_turn l at n v i h =
    ap (set (put_at l at (take i (copies n v))) (at + i)) (sym (get_copies n v i h)) ∙ copy_turn l at (copies n v) i 0 (omega (arith, length-copies n v))

pub fill_end : (l : List ℕ) (at n v i : ℕ) → n ≤ i → put_at l at (take i (copies n v)) ≡ put_at l at (copies n v)
fill_end l at n v i h = copy_end l at (copies n v) i (omega (arith, length-copies n v))

-- the loop that fills: none, and one more
pub fill_start : {A : Type 0} (l : List A) (at : ℕ) (v : A) → l ≡ put_at l at (copies (at - at) v)
unfolding copies
fill_start {A = A} l at v =
    let none : at - at ≡ 0 = omega arith in
    sym (ap (λ (k : ℕ). put_at l at (copies k v)) none ∙ put-none l at)

pub fill_next : {A : Type 0} (l : List A) (at i : ℕ) (v : A) → at ≤ i → set (put_at l at (copies (i - at) v)) i v ≡ put_at l at (copies (i + 1 - at) v)
unfolding copies
fill_next l at i v h =
    let more : i + 1 - at ≡ i - at + 1 = omega arith in
    let there : at + (i - at) ≡ i = omega arith in
    rw (more, replicate_next (i - at) v, put_snoc, length-replicate (i - at) v, there)

pub length-zeros : (n : ℕ) → length (zeros n) ≡ n
length-zeros n = length-copies n 0

-- ---- a part of a part

pub part-part : (l : List ℕ) (start size at n : ℕ) → at + n ≤ size → part (part l start size) at n ≡ part l (start + at) n
part-part l start size at n h = within (drop start l) size at n h ∙ ap (take n) (drop-drop at start l)
  where
    within : (l : List ℕ) (size at n : ℕ) → at + n ≤ size → take n (drop at (take size l)) ≡ take n (drop at l)
    within l size zero n h = take-take n size l (omega arith)
    within [] zero (suc at) n h = refl
    within [] (suc size) (suc at) n h = refl
    within (x ∷ l) zero (suc at) n h = absurd (omega arith)
    within (x ∷ l) (suc size) (suc at) n h = within l size at n (omega arith)

pub length_part : (l : List ℕ) (at n : ℕ) → at + n ≤ length l → length (part l at n) ≡ n
length_part l at n h = length-take-le n (drop at l) (simp length-drop (omega arith))

-- an element of a chunk
pub chunk_get : (n k : ℕ) (l : List ℕ) (i j : ℕ) → i < k → j < n → get_or (get_or (first_chunks n k l) i []) j 0 ≡ get_or l (i * n + j) 0
chunk_get n zero l i j h less = absurd (omega arith)
chunk_get n (suc k) l zero j h less = get_or-take n l j 0 less ∙ ap (λ (m : ℕ). get_or l m 0) (omega arith)
chunk_get n (suc k) l (suc i) j h less =
    let further : n + (i * n + j) ≡ suc i * n + j = omega (arith, suc-mul i n) in
    chunk_get n k (drop n l) i j (omega arith) less ∙ get_or-drop n l (i * n + j) 0 ∙ ap (λ (m : ℕ). get_or l m 0) further
