-- Reading and laying a header in words: the order of refusals, when reading succeeds, and that what is laid is read.
use Rattle.file_header.specs.declared.header.Header.{Header}
use Rattle.std.specs.Prelude.{Result, Ok, Err}
use Prim.Native.Nat.{ℕ, ◌+◌, ◌^◌, ◌≤◌, ◌<◌}
use native.Mathlib.Omega.{arith}
use mathlib.Core.Path.{◌≡◌, refl, sym, ap, ◌∙◌}
use mathlib.Core.Bool.{Bool, true, false}
use mathlib.Core.List.{List, ◌++◌}
use lib.ListN.{length, drop}
use lib.Dec.{ltb, eqb}
use borrow.Author.Tests.{lt-ltb, le-ltb, eq-eqb, ne_eqb, ltb-false, eqb-true}
use Rattle.words.specs.Choice.{pick}
use Rattle.words.specs.Store.{part, put_at}
use Rattle.words.specs.Field.{little_endian, spelled, field, word_at, long_at}
use Rattle.words.proofs.StoreLaws.{length-put, put-append, part-put, drop_after}
use Rattle.words.proofs.FieldLaws.{length-spelled, field_put, field-before}
use Rattle.layout.specs.declared.refusal.Refusal.{Refusal}
use Rattle.layout.specs.declared.refusal.Refusal.TheVariants.{FileTooLong, HeaderTooShort, SignatureUnknown, VersionUnknown}
use Rattle.file_header.specs.declared.header.ByteOrder.{ByteOrder}
use Rattle.layout.specs.Limits.{longest_file}
use Rattle.layout.specs.Sizes.{header_size}
use Rattle.file_header.specs.Header.{signature, header_bytes, has_signature, versioned, read_header, header_laid, when_laid, with_header, Reads, ReadsExactly, LaidIsRead, LaidElsewhere}
use Rattle.file_header.specs.Answer.{headed_number, header_laid_number}
use Rattle.file_header.proofs.HeaderLaws.{length-signature, length_header, little_spells, big_spells, laid_there}

-- ---- the order of refusals

module _ (file : List ℕ) where
  pub header_1 : longest_file < length file → headed_number (read_header file) ≡ 1
  unfolding read_header headed_number pick
  header_1 h = simp (lt-ltb _ _ h)

  module _ (short : length file ≤ longest_file) where
    pub header_16 : length file < header_size → headed_number (read_header file) ≡ 16
    unfolding read_header headed_number pick
    header_16 h = simp (le-ltb _ _ short, lt-ltb _ _ h)

    module _ (long : header_size ≤ length file) where
      pub header_17 : has_signature file ByteOrder.Little ≡ false → has_signature file ByteOrder.Big ≡ false → headed_number (read_header file) ≡ 17
      unfolding read_header headed_number pick
      header_17 l b = simp (le-ltb _ _ short, le-ltb _ _ long, l, b)

      -- a signature is that of one order
      one_order : has_signature file ByteOrder.Big ≡ true → has_signature file ByteOrder.Little ≡ false
      unfolding has_signature
      one_order b = ne_eqb _ _ (λ e. let z : ◌≡◌ {A = ℕ} 0x746E616972615647 0x69616E7447566172 = sym little_spells ∙ sym e ∙ eqb-true _ _ b ∙ big_spells in absurd (omega arith))

      pub by_order : (order : ByteOrder) → has_signature file order ≡ true → read_header file ≡ versioned file order
      unfolding read_header pick
      by_order ByteOrder.Little s = simp (le-ltb _ _ short, le-ltb _ _ long, s)
      by_order ByteOrder.Big s = simp (le-ltb _ _ short, le-ltb _ _ long, one_order s, s)

      pub header_19 : (order : ByteOrder) → has_signature file order ≡ true → (word_at file 8 ≡ 0 → ⊥) → headed_number (read_header file) ≡ 19
      unfolding versioned headed_number pick
      header_19 order s v = ap headed_number (by_order order s) ∙ simp (ne_eqb _ _ v)

module _ (size : ℕ) where
  pub lay_1 : longest_file < size → header_laid_number (header_laid size) ≡ 1
  unfolding header_laid header_laid_number pick
  lay_1 h = simp (lt-ltb _ _ h)

  pub lay_16 : size ≤ longest_file → size < header_size → header_laid_number (header_laid size) ≡ 16
  unfolding header_laid header_laid_number pick
  lay_16 short h = simp (le-ltb _ _ short, lt-ltb _ _ h)

-- ---- reading succeeds exactly where the header is whole

module _ (file : List ℕ) (order : ByteOrder) (start end : ℕ) where
  versioned_0 : (o : ByteOrder) → eqb (word_at file 8) 0 ≡ true → versioned file o ≡ Ok (record { order = o; start = word_at file 16; end = word_at file 20 })
  unfolding versioned pick
  versioned_0 o v = simp v

  versioned_19 : (o : ByteOrder) → eqb (word_at file 8) 0 ≡ false → versioned file o ≡ Err VersionUnknown
  unfolding versioned pick
  versioned_19 o v = simp v

  version_is : (o : ByteOrder) (v : Bool) → eqb (word_at file 8) 0 ≡ v → versioned file o ≡ Ok (record { order = order; start = start; end = end })
      → (o ≡ order) × (word_at file 8 ≡ 0) × (word_at file 16 ≡ start) × (word_at file 20 ≡ end)
  version_is o true v e =
      let f : ◌≡◌ {A = Result Header Refusal} (Ok (record { order = o; start = word_at file 16; end = word_at file 20 })) (Ok (record { order = order; start = start; end = end })) = sym (versioned_0 o v) ∙ e in
      let g : ◌≡◌ {A = Header} (record { order = o; start = word_at file 16; end = word_at file 20 }) (record { order = order; start = start; end = end }) = cc in
      (ap (λ (h : Header). h.order) g, eqb-true _ _ v, ap (λ (h : Header). h.start) g, ap (λ (h : Header). h.end) g)
  version_is o false v e =
      let f : ◌≡◌ {A = Result Header Refusal} (Err VersionUnknown) (Ok (record { order = order; start = start; end = end })) = sym (versioned_19 o v) ∙ e in
      let z : ◌≡◌ {A = ℕ} 0 1 = cc in absurd (omega arith)

  whole : (o : ByteOrder) → length file ≤ longest_file → header_size ≤ length file → has_signature file o ≡ true → read_header file ≡ Ok (record { order = order; start = start; end = end })
      → Reads file order start end
  whole o short long s e =
      let v = version_is o (eqb (word_at file 8) 0) refl (sym (by_order file short long o s) ∙ e) in
      record {
        short = short;
        long = long;
        signed = ap (has_signature file) (sym v.0) ∙ s;
        version = v.1;
        starts = v.2;
        ends = v.3;
      }

  refused : (why : Refusal) → read_header file ≡ Err why → read_header file ≡ Ok (record { order = order; start = start; end = end }) → Reads file order start end
  refused why r e = let z : ◌≡◌ {A = ℕ} 0 1 = cc in absurd (omega arith)

  by_tests : (a b l g : Bool) → ltb longest_file (length file) ≡ a → ltb (length file) header_size ≡ b → has_signature file ByteOrder.Little ≡ l
      → has_signature file ByteOrder.Big ≡ g → read_header file ≡ Ok (record { order = order; start = start; end = end }) → Reads file order start end
  unfolding read_header pick
  by_tests true b l g long _ _ _ e = refused FileTooLong (simp long) e
  by_tests false true l g fits short _ _ e = refused HeaderTooShort (simp (fits, short)) e
  by_tests false false true g fits long s _ e = whole ByteOrder.Little (ltb-false _ _ fits) (ltb-false _ _ long) s e
  by_tests false false false true fits long _ s e = whole ByteOrder.Big (ltb-false _ _ fits) (ltb-false _ _ long) s e
  by_tests false false false false fits long l g e = refused SignatureUnknown (simp (fits, long, l, g)) e

  back : Reads file order start end → read_header file ≡ Ok (record { order = order; start = start; end = end })
  back r =
      by_order file r.short r.long order r.signed ∙ versioned_0 order (eq-eqb _ _ r.version)
      ∙ ap (λ (s : ℕ). Ok (record { order = order; start = s; end = word_at file 20 })) r.starts ∙ ap (λ (s : ℕ). Ok (record { order = order; start = start; end = s })) r.ends

pub reads_exactly : ReadsExactly
reads_exactly file order start end = (by_tests file order start end _ _ _ _ refl refl refl refl, back file order start end)

-- ---- what is laid

pub laid_elsewhere : LaidElsewhere
unfolding with_header when_laid
laid_elsewhere target order start end = by_answer (header_laid (length target))
  where
    by_answer : (a : Result (Unit {0}) Refusal)
        → (length (when_laid a (put_at target 0 (header_bytes order start end)) target) ≡ length target)
        × (drop header_size (when_laid a (put_at target 0 (header_bytes order start end)) target) ≡ drop header_size target)
    by_answer (Ok _) = (length-put target 0 (header_bytes order start end), drop_after target 0 (header_bytes order start end) header_size (omega (arith, length_header order start end)))
    by_answer (Err why) = (refl, refl)

-- the header's five stores: signature, version, options, start, end
stores : (l : List ℕ) (order : ByteOrder) (start end : ℕ)
    → put_at l 0 (header_bytes order start end)
    ≡ put_at (put_at (put_at (put_at (put_at l 0 (signature order)) 8 (spelled 4 0)) 12 (spelled 4 0)) 16 (spelled 4 start)) 20 (spelled 4 end)
unfolding header_bytes
stores l order start end =
    put-append l 0 (signature order) _
    ∙ ap (λ (k : ℕ). put_at (put_at l 0 (signature order)) k (spelled 4 0 ++ (spelled 4 0 ++ (spelled 4 start ++ spelled 4 end)))) (ap (λ (k : ℕ). 0 + k) (length-signature order))
    ∙ put-append _ 8 (spelled 4 0) _ ∙ word_on 8 0 _ _ ∙ put-append _ 12 (spelled 4 0) _ ∙ word_on 12 0 _ _ ∙ put-append _ 16 (spelled 4 start) _ ∙ word_on 16 start _ _
  where
    word_on : (at v : ℕ) (m vs : List ℕ) → put_at m (at + length (spelled 4 v)) vs ≡ put_at m (at + 4) vs
    word_on at v m vs = ap (λ (k : ℕ). put_at m (at + k) vs) (length-spelled 4 v)

-- what each field reads then
module _ (l : List ℕ) (order : ByteOrder) (start end : ℕ) (long : header_size ≤ length l) where
  f1 : List ℕ
  f1 = put_at l 0 (signature order)

  f2 : List ℕ
  f2 = put_at f1 8 (spelled 4 0)

  f3 : List ℕ
  f3 = put_at f2 12 (spelled 4 0)

  f4 : List ℕ
  f4 = put_at f3 16 (spelled 4 start)

  f5 : List ℕ
  f5 = put_at f4 20 (spelled 4 end)

  -- a field before the last stores is as it was
  before_20 : (n k : ℕ) → k + n ≤ 20 → field n f5 k ≡ field n f4 k
  unfolding f5
  before_20 n k h = field-before n f4 20 (spelled 4 end) k h

  before_16 : (n k : ℕ) → k + n ≤ 16 → field n f4 k ≡ field n f3 k
  unfolding f4
  before_16 n k h = field-before n f3 16 (spelled 4 start) k h

  before_12 : (n k : ℕ) → k + n ≤ 12 → field n f3 k ≡ field n f2 k
  unfolding f3
  before_12 n k h = field-before n f2 12 (spelled 4 0) k h

  before_8 : (n k : ℕ) → k + n ≤ 8 → field n f2 k ≡ field n f1 k
  unfolding f2
  before_8 n k h = field-before n f1 8 (spelled 4 0) k h

  signature_is : long_at f5 0 ≡ little_endian (signature order)
  unfolding f1 field
  signature_is =
      before_20 8 0 (omega arith) ∙ before_16 8 0 (omega arith) ∙ before_12 8 0 (omega arith) ∙ before_8 8 0 (omega arith)
      ∙ ap (λ (n : ℕ). little_endian (part f1 0 n)) (sym (length-signature order))
      ∙ ap little_endian (part-put l 0 (signature order) (omega (arith, length-signature order)))

  version_0 : word_at f5 8 ≡ 0
  unfolding f2 f1
  version_0 =
      before_20 4 8 (omega arith) ∙ before_16 4 8 (omega arith) ∙ before_12 4 8 (omega arith)
      ∙ field_put 4 f1 8 0 (omega (arith, length-put l 0 (signature order))) (omega arith)

  start_is : start < 2 ^ 32 → word_at f5 16 ≡ start
  unfolding f4 f3 f2 f1
  start_is h =
      before_20 4 16 (omega arith)
      ∙ field_put 4 f3 16 start (omega (arith, length-put f2 12 (spelled 4 0), length-put f1 8 (spelled 4 0), length-put l 0 (signature order))) h

  end_is : end < 2 ^ 32 → word_at f5 20 ≡ end
  unfolding f5 f4 f3 f2 f1
  end_is h =
      field_put 4 f4 20 end
      (omega (arith, length-put f3 16 (spelled 4 start), length-put f2 12 (spelled 4 0), length-put f1 8 (spelled 4 0), length-put l 0 (signature order))) h

  read_back : length l ≤ longest_file → start < 2 ^ 32 → end < 2 ^ 32 → read_header (put_at l 0 (header_bytes order start end)) ≡ Ok (record { order = order; start = start; end = end })
  unfolding has_signature f5 f4 f3 f2 f1
  read_back short s e =
      let whole : put_at l 0 (header_bytes order start end) ≡ f5 = stores l order start end in
      (reads_exactly _ order start end).1 (record {
        short = omega (arith, length-put l 0 (header_bytes order start end));
        long = omega (arith, length-put l 0 (header_bytes order start end));
        signed = eq-eqb _ _ (ap (λ (x : List ℕ). long_at x 0) whole ∙ signature_is);
        version = ap (λ (x : List ℕ). word_at x 8) whole ∙ version_0;
        starts = ap (λ (x : List ℕ). word_at x 16) whole ∙ start_is s;
        ends = ap (λ (x : List ℕ). word_at x 20) whole ∙ end_is e;
      })

by_tests_of : (size : ℕ) (a b : Bool) → ltb longest_file size ≡ a → ltb size header_size ≡ b → header_laid size ≡ Ok tt
    → (size ≤ longest_file) × (header_size ≤ size)
unfolding header_laid pick
by_tests_of size true b long _ e =
    let f : ◌≡◌ {A = Result (Unit {0}) Refusal} (Err FileTooLong) (Ok tt) = sym (simp long) ∙ e in let z : ◌≡◌ {A = ℕ} 0 1 = cc in absurd (omega arith)
by_tests_of size false true fits short e =
    let f : ◌≡◌ {A = Result (Unit {0}) Refusal} (Err HeaderTooShort) (Ok tt) = sym (simp (fits, short)) ∙ e in let z : ◌≡◌ {A = ℕ} 0 1 = cc in absurd (omega arith)
by_tests_of size false false fits long e = (ltb-false _ _ fits, ltb-false _ _ long)

-- a success has room
laid_room : (size : ℕ) → header_laid size ≡ Ok tt → (size ≤ longest_file) × (header_size ≤ size)
laid_room size e = by_tests_of size (ltb longest_file size) (ltb size header_size) refl refl e

pub laid_is_read : LaidIsRead
laid_is_read target order start end laid s e =
    let room = laid_room (length target) laid in
    ap read_header (laid_there target order start end room.0 room.1) ∙ read_back target order start end room.1 room.0 s e
