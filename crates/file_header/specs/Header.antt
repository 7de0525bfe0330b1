-- The header of a file, from document 02, 'The file header': 24 bytes, in front of everything. The byte order is that of the values alone: the
-- four numbers of a header are little endian in both.
use Rattle.std.specs.Prelude.{ℕ, ◌^◌, ◌≤◌, ◌<◌, ◌≡◌, ◌↔◌, Bool, true, List, [], ◌∷◌, ◌++◌, length, drop, ltb, eqb, Result, Ok, Err}
use Rattle.layout.specs.declared.refusal.Refusal.{Refusal}
use Rattle.file_header.specs.declared.header.Header.{Header}
use Rattle.words.specs.Choice.{pick}
use Rattle.words.specs.Field.{little_endian, spelled, word_at, long_at}
use Rattle.words.specs.Store.{put_at}
use Rattle.layout.specs.declared.refusal.Refusal.TheVariants.{FileTooLong, HeaderTooShort, SignatureUnknown, VersionUnknown}
use Rattle.file_header.specs.declared.header.ByteOrder.{ByteOrder}
use Rattle.layout.specs.Limits.{longest_file}
use Rattle.layout.specs.Sizes.{header_size}

-- bytes 0 to 7: "GVariant", and "raVGtnai" where values are big endian (each half reversed)
unfoldable pub signature : ByteOrder → List ℕ
signature ByteOrder.Little = 0x47 ∷ 0x56 ∷ 0x61 ∷ 0x72 ∷ 0x69 ∷ 0x61 ∷ 0x6E ∷ 0x74 ∷ []
signature ByteOrder.Big = 0x72 ∷ 0x61 ∷ 0x56 ∷ 0x47 ∷ 0x74 ∷ 0x6E ∷ 0x61 ∷ 0x69 ∷ []

-- the signature, version 0, options 0, start and end of the root pointer
unfoldable pub header_bytes : ByteOrder → ℕ → ℕ → List ℕ
header_bytes order start end = signature order ++ (spelled 4 0 ++ (spelled 4 0 ++ (spelled 4 start ++ spelled 4 end)))

-- ---- reading: 1, 16, 17, 19

unfoldable pub has_signature : List ℕ → ByteOrder → Bool
has_signature file order = eqb (long_at file 0) (little_endian (signature order))

-- 19 where the version is not 0; options are not looked at
unfoldable pub versioned : List ℕ → ByteOrder → Result Header Refusal
versioned file order = pick (eqb (word_at file 8) 0) (Ok (record { order = order; start = word_at file 16; end = word_at file 20 })) (Err VersionUnknown)

unfoldable pub read_header : List ℕ → Result Header Refusal
read_header file =
    pick (ltb longest_file (length file)) (Err FileTooLong)
    (pick (ltb (length file) header_size) (Err HeaderTooShort)
    (pick (has_signature file ByteOrder.Little) (versioned file ByteOrder.Little)
    (pick (has_signature file ByteOrder.Big) (versioned file ByteOrder.Big)
    (Err SignatureUnknown))))

-- ---- laying: 1, 16

unfoldable pub header_laid : ℕ → Result (Unit {0}) Refusal
header_laid size =
    pick (ltb longest_file size) (Err FileTooLong)
    (pick (ltb size header_size) (Err HeaderTooShort) (Ok tt))

-- a refusal leaves the target as it was
unfoldable pub when_laid : Result (Unit {0}) Refusal → List ℕ → List ℕ → List ℕ
when_laid (Ok _) laid target = laid
when_laid (Err why) laid target = target

unfoldable pub with_header : List ℕ → ByteOrder → ℕ → ℕ → List ℕ
with_header target order start end = when_laid (header_laid (length target)) (put_at target 0 (header_bytes order start end)) target

-- ---- the statements

-- a header that reads: the file is long and short enough, and has the signature of an order, version 0 and this pointer
pub record Reads (file : List ℕ) (order : ByteOrder) (start end : ℕ) : Type 0 where
  pub short : length file ≤ longest_file
  pub long : header_size ≤ length file
  pub signed : has_signature file order ≡ true
  pub version : word_at file 8 ≡ 0
  pub starts : word_at file 16 ≡ start
  pub ends : word_at file 20 ≡ end

-- reading succeeds exactly so
abbrev pub ReadsExactly : Type 0
ReadsExactly = (file : List ℕ) (order : ByteOrder) (start end : ℕ) → (read_header file ≡ Ok (record { order = order; start = start; end = end })) ↔ Reads file order start end

-- what a success laid is read: the same order and pointer
abbrev pub LaidIsRead : Type 0
LaidIsRead =
    (target : List ℕ) (order : ByteOrder) (start end : ℕ) → header_laid (length target) ≡ Ok tt → start < 2 ^ 32 → end < 2 ^ 32
    → read_header (with_header target order start end) ≡ Ok (record { order = order; start = start; end = end })

-- laying keeps the target's length, and every byte from 24 on
abbrev pub LaidElsewhere : Type 0
LaidElsewhere =
    (target : List ℕ) (order : ByteOrder) (start end : ℕ)
    → (length (with_header target order start end) ≡ length target) × (drop header_size (with_header target order start end) ≡ drop header_size target)
