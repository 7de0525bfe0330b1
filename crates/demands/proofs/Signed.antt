-- The signature at the border, from the contracts.
use Rattle.std.specs.Prelude.{Result, Ok, Err}
use Rattle.layout.specs.declared.refusal.Refusal.{Refusal}
use Rattle.file_header.specs.declared.header.Header.{Header}
use Prim.Native.Nat.{ℕ, ◌≤◌}
use mathlib.Core.Path.{◌≡◌, refl, sym, ap, ◌∙◌, subst}
use mathlib.Core.Logic.{◌⊎◌, inl, inr}
use mathlib.Core.Bool.{Bool, true, false}
use mathlib.Core.List.{List, [], ◌∷◌}
use native.Mathlib.Omega.{arith}
use borrow.Author.Tests.{eq-eqb, eqb-true, ne_eqb, ltb-false}
use lib.Dec.{ltb}
use lib.ListN.{length, take}
use lib.Seq.{take-take}
use Rattle.words.specs.Choice.{pick}
use Rattle.words.specs.Field.{long_at}
use Rattle.words.specs.Store.{put_at}
use Rattle.words.proofs.StoreLaws.{part-put}
use Rattle.layout.specs.declared.refusal.Refusal.TheVariants.{FileTooLong, HeaderTooShort}
use Rattle.layout.specs.Limits.{longest_file}
use Rattle.layout.specs.Sizes.{header_size}
use Rattle.layout.proofs.RefusalLaws.{refused_some}
use Rattle.file_header.specs.declared.header.ByteOrder.{ByteOrder}
use Rattle.file_header.specs.Answer.{headed_number, headed_order, header_laid_number, order_number}
use Rattle.file_header.specs.Header.{signature, has_signature, header_bytes, read_header, header_laid, when_laid, with_header}
use Rattle.file_header.proofs.HeaderLaws.{length_header, little_spells, big_spells}
use Rattle.file_header.proofs.HeaderReads.{reads_exactly}
use Rattle.answers.specs.declared.header.GvdbHeader.{GvdbHeader}
use Rattle.answers.specs.Header.{order_of, headed_answer}
use Rattle.demands.specs.Signed.{LaidSigned, ReadSigned}
use Rattle.demands.proofs.Contracts.{reading_header_is, laying_header_is}

-- ---- laying

laid_by_lem : (h : Result (Unit {0}) Refusal) → header_laid_number h ≡ 0 → h ≡ Ok tt
unfolding header_laid_number
laid_by_lem (Ok _) e = refl
laid_by_lem (Err why) e = absurd (refused_some why e)

-- a success has room
room_by : (size : ℕ) (a b : Bool) → ltb longest_file size ≡ a → ltb size header_size ≡ b → header_laid size ≡ Ok tt → header_size ≤ size
unfolding header_laid pick
room_by size true b long _ e = let f : Err FileTooLong ≡ Ok tt = sym (simp long) ∙ e in let z : ◌≡◌ {A = ℕ} 0 1 = cc in absurd (omega arith)
room_by size false true fits short e = let f : Err HeaderTooShort ≡ Ok tt = sym (simp (fits, short)) ∙ e in let z : ◌≡◌ {A = ℕ} 0 1 = cc in absurd (omega arith)
room_by size false false fits long e = ltb-false _ _ long

-- the front of what is stored
front_put : (l bytes : List ℕ) → length bytes ≡ header_size → header_size ≤ length l → take 8 (put_at l 0 bytes) ≡ take 8 bytes
front_put l bytes size fits = sym (take-take 8 (length bytes) (put_at l 0 bytes) (omega (arith, size))) ∙ ap (take 8) (part-put l 0 bytes (omega (arith, size)))

front_of : (target : List ℕ) (order : ByteOrder) (start end : ℕ) → header_laid (length target) ≡ Ok tt → take 8 (with_header target order start end) ≡ take 8 (header_bytes order start end)
unfolding with_header when_laid
front_of target order start end laid =
    let room = room_by (length target) (ltb longest_file (length target)) (ltb (length target) header_size) refl refl laid in
    rw laid (front_put target (header_bytes order start end) (length_header order start end) room)

little_front : (start end : ℕ) → take 8 (header_bytes ByteOrder.Little start end) ≡ 0x47 ∷ 0x56 ∷ 0x61 ∷ 0x72 ∷ 0x69 ∷ 0x61 ∷ 0x6E ∷ 0x74 ∷ []
unfolding header_bytes signature
little_front start end = refl

big_front : (start end : ℕ) → take 8 (header_bytes ByteOrder.Big start end) ≡ 0x72 ∷ 0x61 ∷ 0x56 ∷ 0x47 ∷ 0x74 ∷ 0x6E ∷ 0x61 ∷ 0x69 ∷ []
unfolding header_bytes signature
big_front start end = refl

pub laid_signed : LaidSigned
unfolding order_of pick
laid_signed target big start end number left l zero =
    let (is, wrote) = laying_header_is target big start end number left l in
    let laid = laid_by_lem (header_laid (length target)) (sym is ∙ zero) in
    let here : take 8 left ≡ take 8 (header_bytes (order_of big) start end) = ap (take 8) wrote ∙ front_of target (order_of big) start end laid in (
      λ e. let order : order_of big ≡ ByteOrder.Little = rw (eq-eqb _ _ e) in here ∙ ap (λ (o : ByteOrder). take 8 (header_bytes o start end)) order ∙ little_front start end,
      λ n. let order : order_of big ≡ ByteOrder.Big = rw (ne_eqb _ _ n) in here ∙ ap (λ (o : ByteOrder). take 8 (header_bytes o start end)) order ∙ big_front start end,
    )

-- ---- reading

read_by : (file : List ℕ) (h : Result Header Refusal) → read_header file ≡ h → (r : GvdbHeader) → r ≡ headed_answer h → r.number ≡ 0
    → ((r.big ≡ 0) × (long_at file 0 ≡ 0x746E616972615647)) ⊎ ((r.big ≡ 1) × (long_at file 0 ≡ 0x69616E7447566172))
unfolding headed_answer headed_number headed_order has_signature
read_by file (Ok h) is r says zero = by_order h.order refl
  where
    by_order : (order : ByteOrder) → h.order ≡ order → ((r.big ≡ 0) × (long_at file 0 ≡ 0x746E616972615647)) ⊎ ((r.big ≡ 1) × (long_at file 0 ≡ 0x69616E7447566172))
    by_order ByteOrder.Little e =
        let signed = subst (λ (o : ByteOrder). has_signature file o ≡ true) e ((reads_exactly file h.order h.start h.end).0 is).signed in
        inl (ap (λ (x : GvdbHeader). x.big) says ∙ ap order_number e, eqb-true _ _ signed ∙ little_spells)
    by_order ByteOrder.Big e =
        let signed = subst (λ (o : ByteOrder). has_signature file o ≡ true) e ((reads_exactly file h.order h.start h.end).0 is).signed in
        inr (ap (λ (x : GvdbHeader). x.big) says ∙ ap order_number e, eqb-true _ _ signed ∙ big_spells)
read_by file (Err why) is r says zero = absurd (refused_some why (sym (ap (λ (x : GvdbHeader). x.number) says) ∙ zero))

pub read_signed : ReadSigned
read_signed file r l zero = read_by file (read_header file) refl r (reading_header_is file r l) zero
