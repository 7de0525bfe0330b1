-- Laws about the equality test of texts.
use mathlib.Core.Path.{◌≡◌, refl, sym, ap, ◌∙◌}
use mathlib.Core.Bool.{Bool, true, false, ◌&&◌, and-true}
use mathlib.Core.List.{List, [], ◌∷◌, ◌++◌}
use Prim.Native.Nat.{ℕ, ◌+◌, ◌-◌, ◌*◌, ◌≤◌, ◌<◌}
use native.Mathlib.Omega.{arith}
use lib.ListN.{length, get_or, take, drop}
use lib.Seq.{take-add, take-take, take_all}
use lib.Dec.{eqb, leb}
use borrow.Author.Tests.{eqb-true, eqb-false, eq-eqb, le-leb, leb-true, lt-leb}
use Rattle.std.proofs.Common.{Fits, w8}
use Rattle.words.specs.Store.{part}
use Rattle.words.specs.Field.{field}
use Rattle.words.proofs.ChoiceLaws.{both}
use Rattle.words.proofs.FieldLaws.{bytes_below, field_same}
use Rattle.key_order.specs.Compare.{same_bytes, ends_at}

-- the test holds just of equal texts
pub same_equal : (a b : List ℕ) → same_bytes a b ≡ true → a ≡ b
unfolding same_bytes
same_equal [] [] e = refl
same_equal [] (y ∷ b) e = absurd (let z : ◌≡◌ {A = ℕ} 0 1 = cc in omega arith)
same_equal (x ∷ a) [] e = absurd (let z : ◌≡◌ {A = ℕ} 0 1 = cc in omega arith)
same_equal (x ∷ a) (y ∷ b) e =
    let h = both (eqb x y) (same_bytes a b) e in
    cc (eqb-true x y h.0, same_equal a b h.1)

pub same_refl : (a : List ℕ) → same_bytes a a ≡ true
unfolding same_bytes
same_refl [] = refl
same_refl (x ∷ a) = rw (eq-eqb x x refl) (same_refl a)

pub equal_same : (a b : List ℕ) → a ≡ b → same_bytes a b ≡ true
equal_same a b e = rw e (same_refl b)

pub same_other : (a b : List ℕ) → (a ≡ b → ⊥) → same_bytes a b ≡ false
same_other a b other = go (same_bytes a b) refl
  where
    go : (t : Bool) → same_bytes a b ≡ t → same_bytes a b ≡ false
    go true e = absurd (other (same_equal a b e))
    go false e = e

-- texts of different length differ, and texts with different numbers at an offset
pub same_lengths : (a b : List ℕ) → (length a ≡ length b → ⊥) → same_bytes a b ≡ false
same_lengths a b other = same_other a b (λ e. other (ap length e))

pub same_little_endian : (w : ℕ) (a b : List ℕ) (i : ℕ) → (field w a i ≡ field w b i → ⊥) → same_bytes a b ≡ false
same_little_endian w a b i other = same_other a b (λ e. other (ap (λ (l : List ℕ). field w l i) e))

-- no byte, and one
pub same_none : (a b : List ℕ) → length a ≡ length b → length a ≡ 0 → same_bytes a b ≡ true
unfolding same_bytes
same_none [] [] e none = refl
same_none [] (y ∷ b) e none = absurd (omega arith)
same_none (x ∷ a) b e none = absurd (omega arith)

pub same_one : (a b : List ℕ) → length a ≡ length b → length a ≡ 1 → eqb (get_or a 0 0) (get_or b 0 0) ≡ same_bytes a b
unfolding same_bytes
same_one [] b e one = absurd (omega arith)
same_one (x ∷ a) [] e one = absurd (omega arith)
same_one (x ∷ []) (y ∷ []) e one = sym (and-true (eqb x y))
same_one (x ∷ []) (y ∷ z ∷ b) e one = absurd (omega arith)
same_one (x ∷ z ∷ a) (y ∷ b) e one = absurd (omega arith)

-- ---- stretches of w bytes

module _ (w : ℕ) (a b : List ℕ) (ha : (i : ℕ) → get_or a i 0 < 256) (hb : (i : ℕ) → get_or b i 0 < 256) where
  -- equal up to i, and one number there: equal up to the stretch's end
  pub same_turn : (i : ℕ) → i + w ≤ length a → i + w ≤ length b → take i a ≡ take i b → field w a i ≡ field w b i → take (i + w) a ≡ take (i + w) b
  same_turn i fa fb front same =
      take-add i w a ∙ ap (λ (l : List ℕ). l ++ part a i w) front ∙ ap (λ (l : List ℕ). take i b ++ l) (field_same w a b i fa fb ha hb same)
      ∙ sym (take-add i w b)

  -- equal up to i, and the stretch at the end starts at or before i: its numbers tell
  pub same_last : (i last : ℕ) → last + w ≡ length a → length a ≡ length b → last ≤ i → take i a ≡ take i b → eqb (field w a last) (field w b last) ≡ same_bytes a b
  same_last i last whole e reach front = go (eqb (field w a last) (field w b last)) refl
    where
      go : (t : Bool) → eqb (field w a last) (field w b last) ≡ t → t ≡ same_bytes a b
      go true same =
          let shorter : take last a ≡ take last b =
          sym (take-take last i a reach) ∙ ap (λ (l : List ℕ). take last l) front ∙ take-take last i b reach in
          let all : take (last + w) a ≡ take (last + w) b = same_turn last (omega arith) (omega arith) shorter (eqb-true _ _ same) in
          sym (equal_same a b (sym (take_all (last + w) a (omega arith)) ∙ all ∙ take_all (last + w) b (omega arith)))
      go false other = sym (same_little_endian w a b last (eqb-false _ _ other))

  -- two stretches cover a text of at most twice their length
  pub same_two : (last : ℕ) → last + w ≡ length a → length a ≡ length b → last ≤ w
      → (eqb (field w a 0) (field w b 0) && eqb (field w a last) (field w b last)) ≡ same_bytes a b
  same_two last whole e reach = go (eqb (field w a 0) (field w b 0)) refl
    where
      go : (t : Bool) → eqb (field w a 0) (field w b 0) ≡ t → (t && eqb (field w a last) (field w b last)) ≡ same_bytes a b
      go true same = same_last (0 + w) last whole e (omega arith) (same_turn 0 (omega arith) (omega arith) refl (eqb-true _ _ same))
      go false other = sym (same_little_endian w a b 0 (eqb-false _ _ other))

-- equal over i strides of eight, and one number there: equal over one more
pub same_stride : (a b : List ℕ) → ((i : ℕ) → Fits w8 (get_or a i 0)) → ((i : ℕ) → Fits w8 (get_or b i 0)) → (i : ℕ) {m n : ℕ} → 8 * i + 8 ≤ length a → 8 * i + 8 ≤ length b
    → take (8 * i) a ≡ take (8 * i) b → m ≡ field 8 a (8 * i) → n ≡ field 8 b (8 * i) → m ≡ n → take (8 * (i + 1)) a ≡ take (8 * (i + 1)) b
same_stride a b ha hb i fa fb front p q e =
    let next : 8 * i + 8 ≡ 8 * (i + 1) = omega arith in
    rw next at (same_turn 8 a b (bytes_below a ha) (bytes_below b hb) (8 * i) fa fb front (sym p ∙ e ∙ q))

-- the first n bytes end with the fragment just where they are some bytes and then the fragment
pub ends_split : (key : List ℕ) (n : ℕ) (frag : List ℕ) → ends_at key n frag ≡ true
    → (length frag ≤ n) × (take n key ≡ take (n - length frag) key ++ frag)
unfolding ends_at
ends_split key n frag e =
    let h = both (leb (length frag) n) (same_bytes (take (length frag) (drop (n - length frag) key)) frag) e in
    let fits : length frag ≤ n = leb-true _ _ h.0 in
    let whole : n ≡ (n - length frag) + length frag = omega arith in (
      fits,
      ap (λ (k : ℕ). take k key) whole ∙ take-add (n - length frag) (length frag) key
          ∙ ap (λ (l : List ℕ). take (n - length frag) key ++ l) (same_equal _ _ h.1),
    )

pub ends_short : (key : List ℕ) (n : ℕ) (frag : List ℕ) → n < length frag → ends_at key n frag ≡ false
unfolding ends_at
ends_short key n frag h = rw (lt-leb (length frag) n h)

pub ends_long : (key : List ℕ) (n : ℕ) (frag : List ℕ) → length frag ≤ n
    → ends_at key n frag ≡ same_bytes (take (n - (n - length frag)) (drop (n - length frag) key)) frag
unfolding ends_at
ends_long key n frag h =
    let size : n - (n - length frag) ≡ length frag = omega arith in
    rw (le-leb (length frag) n h, size)
