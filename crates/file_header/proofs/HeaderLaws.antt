-- The header: its signature as one number, and what the small stores leave.
use Prim.Native.Nat.{ℕ, ◌+◌, ◌≤◌, ◌<◌}
use mathlib.Core.Path.{◌≡◌, refl, sym, ap, ◌∙◌}
use mathlib.Core.Bool.{true, false}
use mathlib.Core.List.{List, ◌++◌}
use lib.ListN.{length}
use borrow.Author.Tests.{lt-ltb, le-ltb, eq-eqb, ne_eqb}
use Rattle.words.specs.Choice.{pick}
use Rattle.words.specs.Store.{put_at}
use Rattle.words.specs.Field.{little_endian, spelled, long_at}
use Rattle.words.proofs.StoreLaws.{put_then}
use Rattle.words.proofs.FieldLaws.{length-spelled}
use Rattle.file_header.specs.declared.header.ByteOrder.{ByteOrder}
use Rattle.layout.specs.Limits.{longest_file}
use Rattle.layout.specs.Sizes.{header_size}
use Rattle.file_header.specs.Header.{signature, header_bytes, has_signature, header_laid, when_laid, with_header}

-- ---- the signature as the number that its bytes spell

pub little_spells : little_endian (signature ByteOrder.Little) ≡ 0x746E616972615647
unfolding little_endian signature
little_spells = refl

pub big_spells : little_endian (signature ByteOrder.Big) ≡ 0x69616E7447566172
unfolding little_endian signature
big_spells = refl

-- and as two words
pub little_words : signature ByteOrder.Little ≡ spelled 4 0x72615647 ++ spelled 4 0x746E6169
unfolding signature spelled
little_words = refl

pub big_words : signature ByteOrder.Big ≡ spelled 4 0x47566172 ++ spelled 4 0x69616E74
unfolding signature spelled
big_words = refl

module _ (file : List ℕ) (order : ByteOrder) {found n : ℕ} (is : found ≡ long_at file 0) (spells : little_endian (signature order) ≡ n) where
  pub signed : found ≡ n → has_signature file order ≡ true
  unfolding has_signature
  signed e = eq-eqb _ _ (sym is ∙ e ∙ sym spells)

  pub not-signed : (found ≡ n → ⊥) → has_signature file order ≡ false
  unfolding has_signature
  not-signed ne = ne_eqb _ _ (λ e. ne (is ∙ e ∙ spells))

-- ---- stores

-- a word behind a word
behind : (at n v : ℕ) → at + n ≡ at + length (spelled n v)
behind at n v = ap (λ (k : ℕ). at + k) (sym (length-spelled n v))

pub put-signature : (order : ByteOrder) (a b : ℕ) → signature order ≡ spelled 4 a ++ spelled 4 b
    → (l : List ℕ) {m n : List ℕ} → m ≡ put_at l 0 (spelled 4 a) → n ≡ put_at m 4 (spelled 4 b) → n ≡ put_at l 0 (signature order)
put-signature order a b is l p q = put_then l 0 (spelled 4 a) (spelled 4 b) (behind 0 4 a) p q ∙ ap (put_at l 0) (sym is)

pub put_root : (l : List ℕ) (start end : ℕ) {m n o r : List ℕ} → m ≡ put_at l 8 (spelled 4 0) → n ≡ put_at m 12 (spelled 4 0)
    → o ≡ put_at n 16 (spelled 4 start) → r ≡ put_at o 20 (spelled 4 end)
    → r ≡ put_at l 8 (spelled 4 0 ++ (spelled 4 0 ++ (spelled 4 start ++ spelled 4 end)))
put_root l start end {m} {n} p q u v =
    put_then l 8 (spelled 4 0) _ (behind 8 4 0) p
    (put_then m 12 (spelled 4 0) _ (behind 12 4 0) q
    (put_then n 16 (spelled 4 start) (spelled 4 end) (behind 16 4 start) u v))

pub length-signature : (order : ByteOrder) → length (signature order) ≡ 8
unfolding signature
length-signature ByteOrder.Little = refl
length-signature ByteOrder.Big = refl

pub length_header : (order : ByteOrder) (start end : ℕ) → length (header_bytes order start end) ≡ header_size
unfolding header_bytes signature spelled
length_header ByteOrder.Little start end = refl
length_header ByteOrder.Big start end = refl

pub put_header : (l : List ℕ) (order : ByteOrder) (start end : ℕ) {m n : List ℕ} → m ≡ put_at l 0 (signature order)
    → n ≡ put_at m 8 (spelled 4 0 ++ (spelled 4 0 ++ (spelled 4 start ++ spelled 4 end))) → n ≡ put_at l 0 (header_bytes order start end)
unfolding header_bytes
put_header l order start end p q = put_then l 0 (signature order) _ (ap (λ (k : ℕ). 0 + k) (sym (length-signature order))) p q

-- ---- what laying answers and leaves

module _ (l : List ℕ) (order : ByteOrder) (start end : ℕ) where
  pub laid_1 : longest_file < length l → l ≡ with_header l order start end
  unfolding with_header when_laid header_laid pick
  laid_1 h = simp (lt-ltb _ _ h)

  module _ (short : length l ≤ longest_file) where
    pub laid_16 : length l < header_size → l ≡ with_header l order start end
    unfolding with_header when_laid header_laid pick
    laid_16 h = simp (le-ltb _ _ short, lt-ltb _ _ h)

    pub laid_there : header_size ≤ length l → with_header l order start end ≡ put_at l 0 (header_bytes order start end)
    unfolding with_header when_laid header_laid pick
    laid_there h = simp (le-ltb _ _ short, le-ltb _ _ h)
