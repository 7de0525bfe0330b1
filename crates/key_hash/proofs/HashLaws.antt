-- Laws about the hash, for every rule for a byte.
use Rattle.std.proofs.Common.{◌≡◌, ℕ, ◌+◌, ◌-◌, ◌*◌, ◌/◌, ◌%◌, ◌^◌, ◌<◌, ◌≤◌, ◌⊎◌, List, [], ◌∷◌, ◌++◌, length, get_or, take, drop, sym, refl, ap, ◌∙◌, inl, inr, add-one, arith, drop_of_length-le, take_all, drop-cons, take-add, le-ltb, lt-ltb}
use native.Mathlib.Nat.{mod-add-mod, add-mod-mod, add-mul-mod_self_left}
use Rattle.words.specs.Choice.{pick}
use Rattle.key_hash.specs.declared.hash.Form.{Form}
use Rattle.key_hash.specs.Hash.{hash_step, hash_from, hash_by, plain, signed, rule_of}
use Rattle.words.proofs.StoreLaws.{chunk_get}
use Rattle.std.specs.Simd.{first_chunks}
use Rattle.words.proofs.ChoiceLaws.{lt_or_ge}

-- a remainder may be taken of a factor, and of summands, first
mod_step : (h n : ℕ) → (h % 2 ^ 32 * 33 + n) % 2 ^ 32 ≡ (h * 33 + n) % 2 ^ 32
mod_step h n =
    let spread : h * 33 + n ≡ (h % 2 ^ 32 * 33 + n) + 2 ^ 32 * (h / 2 ^ 32 * 33) = omega arith in
    sym (ap (λ (m : ℕ). m % 2 ^ 32) spread ∙ add-mul-mod_self_left (h % 2 ^ 32 * 33 + n) (2 ^ 32) (h / 2 ^ 32 * 33))

pub mod_sum : (h a b c d : ℕ)
    → (h % 2 ^ 32 + ((a % 2 ^ 32 + b % 2 ^ 32) % 2 ^ 32 + (c % 2 ^ 32 + d) % 2 ^ 32) % 2 ^ 32) % 2 ^ 32 ≡ (h + (a + b + (c + d))) % 2 ^ 32
mod_sum h a b c d = simp (mod-add-mod, add-mod-mod)

module _ (rule : ℕ → ℕ) where
  -- one turn of the loop, and its end
  pub hash_turn : (key : List ℕ) (i h : ℕ) → i < length key
      → hash_from rule h (drop i key) ≡ hash_from rule (hash_step rule h (get_or key i 0)) (drop (i + 1) key)
  unfolding hash_from
  hash_turn key i h below = rw (add-one, drop-cons key i 0)

  -- a turn by what its byte counts
  hash_turn_by : (key : List ℕ) (i h n : ℕ) {a : ℕ} → a ≡ rule (get_or key i 0) → i < length key → n ≡ i + 1
      → hash_from rule h (drop i key) ≡ hash_from rule (hash_step plain h a) (drop n key)
  hash_turn_by key i h n {a} e below next =
      hash_turn key i h below ∙ ap (λ (m : ℕ). hash_from rule ((h * 33 + m) % 2 ^ 32) (drop (i + 1) key)) (sym e)
      ∙ ap (λ (m : ℕ). hash_from rule (hash_step plain h a) (drop m key)) (sym next)

  pub hash_end : (key : List ℕ) (i h : ℕ) → length key ≤ i → hash_from rule h (drop i key) ≡ h
  unfolding hash_from
  hash_end key i h past = rw (drop_of_length-le key past)

  -- no byte more, one, two and three
  module _ (key : List ℕ) (h : ℕ) where
    pub tail_none : length key ≡ 0 → h ≡ hash_from rule h key
    tail_none n = sym (hash_end key 0 h (omega arith))

    module _ {a : ℕ} (first : a ≡ hash_step rule h (get_or key 0 0)) where
      pub tail-one : length key ≡ 1 → a ≡ hash_from rule h key
      tail-one n = first ∙ sym (hash_turn key 0 h (omega arith) ∙ hash_end key 1 _ (omega arith))

      module _ {b : ℕ} (second : b ≡ hash_step rule a (get_or key 1 0)) where
        both_told : b ≡ hash_step rule (hash_step rule h (get_or key 0 0)) (get_or key 1 0)
        both_told = second ∙ ap (λ (v : ℕ). hash_step rule v (get_or key 1 0)) first

        pub tail-two : length key ≡ 2 → b ≡ hash_from rule h key
        tail-two n = both_told ∙ sym (hash_turn key 0 h (omega arith) ∙ hash_turn key 1 _ (omega arith) ∙ hash_end key 2 _ (omega arith))

        pub tail-three : {c : ℕ} → c ≡ hash_step rule b (get_or key 2 0) → length key ≡ 3 → c ≡ hash_from rule h key
        tail-three third n =
            third ∙ ap (λ (v : ℕ). hash_step rule v (get_or key 2 0)) both_told
            ∙ sym (hash_turn key 0 h (omega arith) ∙ hash_turn key 1 _ (omega arith) ∙ hash_turn key 2 _ (omega arith) ∙ hash_end key 3 _ (omega arith))

  -- a stride is four steps: times 33^4, and what the four bytes count by their powers of 33
  pub four_steps : (h a b c d : ℕ)
      → hash_from rule h (a ∷ b ∷ c ∷ d ∷ []) ≡ (h * 1185921 + (rule a * 35937 + rule b * 1089 + (rule c * 33 + rule d))) % 2 ^ 32
  unfolding hash_from
  four_steps h a b c d =
      let one = h * 33 + rule a in
      let two = one * 33 + rule b in
      let three = two * 33 + rule c in
      let all : three * 33 + rule d ≡ h * 1185921 + (rule a * 35937 + rule b * 1089 + (rule c * 33 + rule d)) = omega arith in
      ap (λ (n : ℕ). ((n * 33 + rule c) % 2 ^ 32 * 33 + rule d) % 2 ^ 32) (mod_step one (rule b))
      ∙ ap (λ (n : ℕ). (n * 33 + rule d) % 2 ^ 32) (mod_step two (rule c))
      ∙ mod_step three (rule d)
      ∙ ap (λ (n : ℕ). n % 2 ^ 32) all

  -- a turn of the loop that takes four bytes, by what they count
  pub hash_stride : (key : List ℕ) (i h : ℕ) {a b c d v : ℕ} → i + 4 ≤ length key
      → a ≡ rule (get_or key i 0) → b ≡ rule (get_or key (i + 1) 0) → c ≡ rule (get_or key (i + 2) 0) → d ≡ rule (get_or key (i + 3) 0)
      → v ≡ hash_from plain h (a ∷ b ∷ c ∷ d ∷ []) → hash_from rule h (drop i key) ≡ hash_from rule v (drop (i + 4) key)
  unfolding hash_from
  hash_stride key i h {a} {b} {c} {d} fits ea eb ec ed told =
      let one = hash_step plain h a in
      let two = hash_step plain one b in
      let three = hash_step plain two c in
      hash_turn_by key i h (i + 1) ea (omega arith) (omega arith)
      ∙ hash_turn_by key (i + 1) one (i + 2) eb (omega arith) (omega arith)
      ∙ hash_turn_by key (i + 2) two (i + 3) ec (omega arith) (omega arith)
      ∙ hash_turn_by key (i + 3) three (i + 4) ed (omega arith) (omega arith)
      ∙ ap (λ (n : ℕ). hash_from rule n (drop (i + 4) key)) (sym told)

  -- the hash of two parts joined goes on from the first part's
  pub hash_from-append : (a b : List ℕ) (h : ℕ) → hash_from rule h (a ++ b) ≡ hash_from rule (hash_from rule h a) b
  unfolding hash_from
  hash_from-append [] b h = refl
  hash_from-append (x ∷ a) b h = hash_from-append a b (hash_step rule h x)

  pub hash-append : (a b : List ℕ) → hash_by rule (a ++ b) ≡ hash_from rule (hash_by rule a) b
  unfolding hash_by
  hash-append a b = hash_from-append a b 5381

  -- no bytes hash to the start; the hash of a longer start of a key goes on from that of a shorter one, and so does the hash of the key
  pub hash-none : (key : List ℕ) → hash_by rule (take 0 key) ≡ 5381
  unfolding hash_by hash_from
  hash-none key = refl

  module _ (key : List ℕ) (at h : ℕ) (is : h ≡ hash_by rule (take at key)) where
    pub hash_further : (e : ℕ) → at ≤ e → hash_from rule h (take (e - at) (drop at key)) ≡ hash_by rule (take e key)
    hash_further e up =
        let q : at + (e - at) ≡ e = omega arith in
        ap (λ (n : ℕ). hash_from rule n (take (e - at) (drop at key))) is ∙ sym (hash-append (take at key) (take (e - at) (drop at key)))
        ∙ ap (hash_by rule) (sym (take-add at (e - at) key)) ∙ ap (λ (n : ℕ). hash_by rule (take n key)) q

    pub hash_whole : at ≤ length key → hash_from rule h (take (length key - at) (drop at key)) ≡ hash_by rule key
    hash_whole up = hash_further (length key) up ∙ ap (hash_by rule) (take_all (length key) key (omega arith))

  -- a hash is a number of 32 bits
  pub hash_from_below : (a : List ℕ) (h : ℕ) → h < 2 ^ 32 → hash_from rule h a < 2 ^ 32
  unfolding hash_from
  hash_from_below [] h small = small
  hash_from_below (x ∷ a) h small = hash_from_below a (hash_step rule h x) (omega arith)

  pub hash_below : (a : List ℕ) → hash_by rule a < 2 ^ 32
  unfolding hash_by
  hash_below a = hash_from_below a 5381 (omega arith)

-- a byte of a chunk of four
pub byte_of_chunk : (chunks : List (List ℕ)) (bytes : List ℕ) → chunks ≡ first_chunks 4 (length bytes / 4) bytes → (i j : ℕ) {at : ℕ} → i < length bytes / 4 → j < 4 → i * 4 + j ≡ at
    → get_or (get_or chunks i []) j 0 ≡ get_or bytes at 0
byte_of_chunk chunks bytes front i j fits less e =
    ap (λ (l : List (List ℕ)). get_or (get_or l i []) j 0) front ∙ chunk_get 4 (length bytes / 4) bytes i j fits less ∙ ap (λ (m : ℕ). get_or bytes m 0) e

-- what a byte counts under the signed rule, below 128 and from 128 on
pub signed_low : (b : ℕ) → b < 128 → signed b ≡ b
unfolding signed pick
signed_low b l = simp (lt-ltb b 128 l)

pub signed_high : (b : ℕ) → 128 ≤ b → signed b ≡ b + 4294967040
unfolding signed pick
signed_high b l = simp (le-ltb b 128 l)

-- the code of the signed rule: 128 more, modulo 256, and 128 less
pub counts_signed : {form : Form} (b : ℕ) {wide r : ℕ} → form ≡ Form.Signed → wide ≡ b → wide < 256 → r ≡ ((wide + 128) % 256 + 4294967168) % 2 ^ 32 → r ≡ rule_of form b
counts_signed b {wide} {r} e w l told = on (lt_or_ge b 128) ∙ sym (ap (λ (f : Form). rule_of f b) e)
  where
    on : (b < 128) ⊎ (128 ≤ b) → r ≡ signed b
    on (inl below) = let s = signed_low b below in omega (arith, told, w, l, s)
    on (inr above) = let s = signed_high b above in omega (arith, told, w, l, s)

-- a signed byte is itself below 128, and from there on to 255 it is 256 less, modulo 2^32
pub signed_is : (b : ℕ) → (b < 128 → signed b ≡ b) × (128 ≤ b → b < 256 → (signed b + 256 ≡ b + 2 ^ 32) × (signed b < 2 ^ 32))
signed_is b = (signed_low b, λ l h. let e = signed_high b l in (omega (arith, e), omega (arith, e, h)))

-- 'é' is C3 A9: its two hashes
pub accent_plain : hash_by plain (0xC3 ∷ 0xA9 ∷ []) ≡ 5866513
unfolding hash_by hash_from
accent_plain = refl

pub accent_signed : hash_by signed (0xC3 ∷ 0xA9 ∷ []) ≡ 5857809
unfolding hash_by hash_from signed pick
accent_signed = refl
