-- The hash from the back is the hash, for every rule for a byte.
use Rattle.std.proofs.Common.{◌≡◌, ℕ, suc, ◌+◌, ◌-◌, ◌*◌, ◌/◌, ◌%◌, ◌^◌, ◌<◌, List, [], ◌∷◌, ◌++◌, length, get_or, take, drop, reverse, sym, refl, ap, ◌∙◌, add-zero, add_assoc, mod-lt, mod-eq_of_lt, mul_assoc, mul_comm, add-mul, mul-one, arith, take-append-drop, drop-cons}
use native.Mathlib.Nat.{mod-add-div, add-mul-mod_self_left, add-mod-mod, mod-add-mod}
use native.Mathlib.Nat.{sub-zero}
use lib.Seq.{drop-length}
use Rattle.std.proofs.lemmas.List.{get_or-reverse, get_or_default, get_or-drop, length-reverse}
use Rattle.std.specs.Simd.{first_chunks}
use Rattle.words.proofs.StoreLaws.{chunk_get}
use Rattle.key_hash.specs.Hash.{hash_step, hash_from, hash_by, plain}
use Rattle.check_hash.specs.declared.tally.Tally.{Tally}
use Rattle.check_hash.specs.Tally.{before, prepend, finish, none}

-- a remainder may be taken of a factor first
mod_mul_add : (m a b c : ℕ) → (a % m * b + c) % m ≡ (a * b + c) % m
mod_mul_add m a b c =
    let whole : a ≡ a % m + m * (a / m) = sym (mod-add-div a m) in
    let spread : a * b + c ≡ (a % m * b + c) + m * (a / m * b) =
    ap (λ (n : ℕ). n * b + c) whole ∙ ap (λ (n : ℕ). n + c) (add-mul (a % m) (m * (a / m)) b) ∙ ap (λ (n : ℕ). a % m * b + n + c) (mul_assoc m (a / m) b) ∙ omega arith in
    sym (ap (λ (n : ℕ). n % m) spread ∙ add-mul-mod_self_left (a % m * b + c) m (a / m * b))

mul_mod_add : (m a b c : ℕ) → (a * (b % m) + c) % m ≡ (a * b + c) % m
mul_mod_add m a b c = rw (mul_comm a (b % m), mul_comm a b) (mod_mul_add m b a c)

ring : (h x w t : ℕ) → (h * 33 + x) * w + t ≡ h * (33 * w) + (x * w + t)
ring h x w t = rw (add-mul (h * 33) x w, mul_assoc h 33 w) (add_assoc _ _ _)

-- an item of a list from its back
item_back : {X : Type 0} (xs : List X) (n : ℕ) {x : X} → (n < length (reverse xs)) × (x ≡ get_or (reverse xs) n x) → (d : X)
    → (n < length xs) × (x ≡ get_or xs (length xs - 1 - n) d)
item_back xs n {x} (less, is) d =
    let below : n < length xs = omega (arith, length-reverse xs) in
    (below, is ∙ get_or-reverse xs n x below ∙ get_or_default xs (length xs - 1 - n) x d (omega arith))

module _ (rule : ℕ → ℕ) where
  hash_affine : (s : List ℕ) (h : ℕ) → h < 2 ^ 32 → hash_from rule h s ≡ (h * (prepend rule s none).weight + (prepend rule s none).sum) % 2 ^ 32
  unfolding hash_from prepend before
  hash_affine [] h l = sym (ap (λ (n : ℕ). n % 2 ^ 32) (ap (λ (n : ℕ). n + 0) (mul-one h) ∙ add-zero h) ∙ mod-eq_of_lt l)
  hash_affine (x ∷ s) h l =
      let w = (prepend rule s none).weight in
      let t = (prepend rule s none).sum in
      hash_affine s (hash_step rule h x) (mod-lt (h * 33 + rule x) (omega arith))
      ∙ mod_mul_add (2 ^ 32) (h * 33 + rule x) w t
      ∙ ap (λ (n : ℕ). n % 2 ^ 32) (ring h (rule x) w t)
      ∙ sym (mul_mod_add (2 ^ 32) h (33 * w) ((rule x * w + t) % 2 ^ 32) ∙ add-mod-mod (h * (33 * w)) (rule x * w + t) (2 ^ 32))

  pub hash_back : (k : List ℕ) → finish (prepend rule k none) ≡ hash_by rule k
  unfolding finish hash_by
  hash_back k = sym (hash_affine k 5381 (omega arith))

  pub prepend-append : (k f : List ℕ) (s : Tally) → prepend rule (k ++ f) s ≡ prepend rule k (prepend rule f s)
  unfolding prepend
  prepend-append [] f s = refl
  prepend-append (x ∷ k) f s = ap (before rule x) (prepend-append k f s)

  -- a turn of the loop over a slice, from its back, and its start
  pub prepend_turn : (bytes : List ℕ) (n : ℕ) {byte : ℕ} (s : Tally) → (n < length (reverse bytes)) × (byte ≡ get_or (reverse bytes) n byte)
      → before rule byte (prepend rule (drop (length bytes - n) bytes) s) ≡ prepend rule (drop (length bytes - (n + 1)) bytes) s
  unfolding prepend
  prepend_turn bytes n s at =
      let (below, is) = item_back bytes n at 0 in
      let i : ℕ = length bytes - 1 - n in
      let inside : i < length bytes = omega arith in
      let next : length bytes - n ≡ suc i = omega arith in
      let same : i ≡ length bytes - (n + 1) = omega arith in
      ap (λ (b : ℕ). before rule b (prepend rule (drop (length bytes - n) bytes) s)) is
      ∙ ap (λ (m : ℕ). before rule (get_or bytes i 0) (prepend rule (drop m bytes) s)) next
      ∙ sym (ap (λ (z : List ℕ). prepend rule z s) (drop-cons bytes i 0 inside))
      ∙ ap (λ (m : ℕ). prepend rule (drop m bytes) s) same

  pub prepend_start : (bytes : List ℕ) (s : Tally) → s ≡ prepend rule (drop (length bytes - 0) bytes) s
  unfolding prepend
  prepend_start bytes s = rw (sub-zero (length bytes), drop-length bytes)

-- ---- four bytes at a time

-- a byte in front of a tally whose numbers are remainders
before_mod : (rule : ℕ → ℕ) (x w t : ℕ)
    → before rule x (record { weight = w % 2 ^ 32; sum = t % 2 ^ 32 }) ≡ record { weight = (33 * w) % 2 ^ 32; sum = (rule x * w + t) % 2 ^ 32 }
unfolding before
before_mod rule x w t =
    let weight : (33 * (w % 2 ^ 32)) % 2 ^ 32 ≡ (33 * w) % 2 ^ 32 =
    rw (add-zero (33 * (w % 2 ^ 32)), add-zero (33 * w)) at (mul_mod_add (2 ^ 32) 33 w 0) in
    let sum : (rule x * (w % 2 ^ 32) + t % 2 ^ 32) % 2 ^ 32 ≡ (rule x * w + t) % 2 ^ 32 =
    mul_mod_add (2 ^ 32) (rule x) w (t % 2 ^ 32) ∙ add-mod-mod (rule x * w) t (2 ^ 32) in
    cc

-- four bytes count by their powers of 33
four_counts : (a b c d w t : ℕ)
    → a * (33 * (33 * (33 * w))) + (b * (33 * (33 * w)) + (c * (33 * w) + (d * w + t))) ≡ (a * 35937 + b * 1089 + (c * 33 + d)) * w + t
four_counts a b c d w t = omega arith

-- four bytes in front are four times one: the weight times 33^4, and what they count by their powers of 33
four_before : (a b c d : ℕ) (s : Tally)
    → prepend plain (a ∷ b ∷ c ∷ d ∷ []) s
    ≡ record { weight = (1185921 * s.weight) % 2 ^ 32; sum = ((a * 35937 + b * 1089 + (c * 33 + d)) * s.weight + s.sum) % 2 ^ 32 }
unfolding prepend before
four_before a b c d s =
    let w = s.weight in
    let t = s.sum in
    let weight : 33 * (33 * (33 * (33 * w))) ≡ 1185921 * w = omega arith in
    ap (λ (z : Tally). before plain a (before plain b z)) (before_mod plain c (33 * w) (d * w + t))
    ∙ ap (before plain a) (before_mod plain b (33 * (33 * w)) (c * (33 * w) + (d * w + t)))
    ∙ before_mod plain a (33 * (33 * (33 * w))) (b * (33 * (33 * w)) + (c * (33 * w) + (d * w + t)))
    ∙ cc (weight, four_counts a b c d w t)

-- what a byte counts, in place of the byte
before_by : (rule : ℕ → ℕ) (x : ℕ) (s : Tally) {a : ℕ} → a ≡ rule x → before plain a s ≡ before rule x s
unfolding before
before_by rule x s e = rw e

turn_by : (rule : ℕ → ℕ) (bytes : List ℕ) (i n : ℕ) (s : Tally) {a : ℕ} → a ≡ rule (get_or bytes i 0) → i < length bytes → n ≡ i + 1
    → before plain a (prepend rule (drop n bytes) s) ≡ prepend rule (drop i bytes) s
unfolding prepend
turn_by rule bytes i n s {a} e below next =
    let q : n ≡ suc i = omega arith in
    ap (λ (m : ℕ). before plain a (prepend rule (drop m bytes) s)) q
    ∙ before_by rule (get_or bytes i 0) (prepend rule (drop (suc i) bytes) s) e
    ∙ sym (ap (λ (z : List ℕ). prepend rule z s) (drop-cons bytes i 0 below))

-- a byte of a stride, of which there are so many behind it
stride_at : (bytes : List ℕ) {strides : List (List ℕ)} → strides ≡ first_chunks 4 (length bytes / 4) (drop (length bytes % 4) bytes)
    → (k : ℕ) {stride : List ℕ} → k < length bytes / 4 → stride ≡ get_or strides k [] → (j : ℕ) {at : ℕ} → j < 4 → length bytes % 4 + (k * 4 + j) ≡ at
    → get_or stride j 0 ≡ get_or bytes at 0
stride_at bytes {strides} back k fits is j less e =
    ap (λ (l : List ℕ). get_or l j 0) is
    ∙ ap (λ (l : List (List ℕ)). get_or (get_or l k []) j 0) back
    ∙ chunk_get 4 (length bytes / 4) (drop (length bytes % 4) bytes) k j fits less
    ∙ get_or-drop (length bytes % 4) bytes (k * 4 + j) 0
    ∙ ap (λ (m : ℕ). get_or bytes m 0) e

-- a turn of the loop that takes four bytes from the back, by what they count
pub prepend_stride : (rule : ℕ → ℕ) (bytes : List ℕ) {strides : List (List ℕ)} → strides ≡ first_chunks 4 (length bytes / 4) (drop (length bytes % 4) bytes) → length strides ≡ length bytes / 4
    → (n : ℕ) {stride : List ℕ} → (n < length (reverse strides)) × (stride ≡ get_or (reverse strides) n stride) → (s : Tally) {a b c d : ℕ} {v r : Tally}
    → a ≡ rule (get_or stride 0 0) → b ≡ rule (get_or stride 1 0) → c ≡ rule (get_or stride 2 0) → d ≡ rule (get_or stride 3 0)
    → v ≡ prepend rule (drop (length bytes - 4 * n) bytes) s → r ≡ prepend plain (a ∷ b ∷ c ∷ d ∷ []) v → r ≡ prepend rule (drop (length bytes - 4 * (n + 1)) bytes) s
unfolding prepend
prepend_stride rule bytes {strides} back long n {stride} at s {a} {b} {c} {d} ea eb ec ed behind told =
    let (below, is) = item_back strides n at [] in
    let k : ℕ = length strides - 1 - n in
    let fits : k < length bytes / 4 = omega arith in
    let i : ℕ = length bytes - 4 * (n + 1) in
    let start : length bytes % 4 + (k * 4 + 0) ≡ i = omega arith in
    let end : length bytes - 4 * n ≡ i + 4 = omega arith in
    let byte : (j p : ℕ) → j < 4 → length bytes % 4 + (k * 4 + j) ≡ p → get_or stride j 0 ≡ get_or bytes p 0 = λ j p less e. stride_at bytes back k fits is j less e in
    told
    ∙ ap (λ (z : Tally). before plain a (before plain b (before plain c (before plain d z)))) behind
    ∙ ap (λ (z : Tally). before plain a (before plain b (before plain c z))) (turn_by rule bytes (i + 3) (length bytes - 4 * n) s (ed ∙ ap rule (byte 3 (i + 3) (omega arith) (omega arith))) (omega arith) (omega arith))
    ∙ ap (λ (z : Tally). before plain a (before plain b z)) (turn_by rule bytes (i + 2) (i + 3) s (ec ∙ ap rule (byte 2 (i + 2) (omega arith) (omega arith))) (omega arith) (omega arith))
    ∙ ap (before plain a) (turn_by rule bytes (i + 1) (i + 2) s (eb ∙ ap rule (byte 1 (i + 1) (omega arith) (omega arith))) (omega arith) (omega arith))
    ∙ turn_by rule bytes i (i + 1) s (ea ∙ ap rule (byte 0 i (omega arith) start)) (omega arith) (omega arith)

-- what is left in front
pub prepend_front : (rule : ℕ → ℕ) (bytes : List ℕ) (i : ℕ) (s : Tally) {v r : Tally} → v ≡ prepend rule (drop i bytes) s → r ≡ prepend rule (take i bytes) v
    → r ≡ prepend rule bytes s
prepend_front rule bytes i s behind told =
    told
    ∙ ap (prepend rule (take i bytes)) behind
    ∙ sym (prepend-append rule (take i bytes) (drop i bytes) s)
    ∙ ap (λ (z : List ℕ). prepend rule z s) (take-append-drop i bytes)

-- the sum of a product and a number may be taken of the product's remainder
pub sum_mod : (a b : ℕ) → (a % 2 ^ 32 + b) % 2 ^ 32 ≡ (a + b) % 2 ^ 32
sum_mod a b = mod-add-mod a (2 ^ 32) b

-- a byte in front and the end, as the code computes them
pub before_is : (rule : ℕ → ℕ) (s : Tally) {byte wide : ℕ} → wide ≡ rule byte
    → ◌≡◌ {A = Tally} (record { weight = s.weight * 33 % 2 ^ 32; sum = (wide * s.weight % 2 ^ 32 + s.sum) % 2 ^ 32 }) (before rule byte s)
unfolding before
before_is rule s {byte} {wide} e =
    let turned : s.weight * 33 ≡ 33 * s.weight = omega arith in
    cc (turned, e, sum_mod (wide * s.weight) s.sum)

-- the same of four bytes
sum_four : (a b c d : ℕ) → ((a % 2 ^ 32 + b % 2 ^ 32) % 2 ^ 32 + (c % 2 ^ 32 + d) % 2 ^ 32) % 2 ^ 32 ≡ (a + b + (c + d)) % 2 ^ 32
sum_four a b c d = simp (mod-add-mod, add-mod-mod)

abbrev four : ℕ → ℕ → ℕ → ℕ → ℕ
four a b c d = ((a * 35937 % 2 ^ 32 + b * 1089 % 2 ^ 32) % 2 ^ 32 + (c * 33 % 2 ^ 32 + d) % 2 ^ 32) % 2 ^ 32

pub four_is : (a b c d : ℕ) (s : Tally)
    → ◌≡◌ {A = Tally} (record { weight = s.weight * 1185921 % 2 ^ 32; sum = (four a b c d * s.weight % 2 ^ 32 + s.sum) % 2 ^ 32 }) (prepend plain (a ∷ b ∷ c ∷ d ∷ []) s)
four_is a b c d s =
    let counts : ℕ = a * 35937 + b * 1089 + (c * 33 + d) in
    let all = four a b c d in
    let turned : s.weight * 1185921 ≡ 1185921 * s.weight = omega arith in
    let whole : all ≡ (a * 35937 + b * 1089 + (c * 33 + d)) % 2 ^ 32 = sum_four (a * 35937) (b * 1089) (c * 33) d in
    let total : (all * s.weight % 2 ^ 32 + s.sum) % 2 ^ 32 ≡ (counts * s.weight + s.sum) % 2 ^ 32 =
    sum_mod (all * s.weight) s.sum ∙ ap (λ (n : ℕ). (n * s.weight + s.sum) % 2 ^ 32) whole ∙ mod_mul_add (2 ^ 32) counts s.weight s.sum in
    let are : ◌≡◌ {A = Tally} (record { weight = s.weight * 1185921 % 2 ^ 32; sum = (all * s.weight % 2 ^ 32 + s.sum) % 2 ^ 32 }) (record { weight = (1185921 * s.weight) % 2 ^ 32; sum = (counts * s.weight + s.sum) % 2 ^ 32 }) = cc in
    are ∙ sym (four_before a b c d s)

pub finish_is : (s : Tally) → (s.weight * 5381 % 2 ^ 32 + s.sum) % 2 ^ 32 ≡ finish s
unfolding finish
finish_is s =
    let turned : s.weight * 5381 ≡ 5381 * s.weight = omega arith in
    sum_mod (s.weight * 5381) s.sum ∙ ap (λ (n : ℕ). (n + s.sum) % 2 ^ 32) turned
