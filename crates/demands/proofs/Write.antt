-- A write that succeeds has laid an image that reads back and passes the check.
use Rattle.std.specs.Prelude.{Result, Ok, Err}
use Rattle.layout.specs.declared.refusal.Refusal.{Refusal}
use Rattle.write.specs.declared.Image.{Image}
use mathlib.Core.Path.{◌≡◌, refl, sym, ap}
use mathlib.Core.Bool.{Bool, true, false, ◌||◌}
use mathlib.Core.List.{List}
use Prim.Native.Nat.{ℕ, ◌+◌, ◌≤◌}
use native.Mathlib.Omega.{arith}
use borrow.Author.Tests.{ltb-false}
use lib.Dec.{ltb}
use lib.ListN.{length, take}
use lib.Seq.{take-length}
use Rattle.words.specs.Choice.{pick}
use Rattle.words.specs.Store.{put_at}
use Rattle.words.proofs.StoreLaws.{part-put}
use Rattle.layout.specs.declared.refusal.Refusal.TheVariants.{MemoryBroken, TableUnknown, TooManyFilterWords, EmptyKey, ImageTooLong}
use Rattle.layout.specs.Limits.{longest_file, deepest, most_filter}
use Rattle.layout.specs.Sizes.{header_size, chunk_size}
use Rattle.image.specs.Image.{image_of}
use Rattle.image.specs.WellFormed.{Writable}
use Rattle.image.specs.Laid.{Holds}
use Rattle.laid.proofs.ImageBack.{root_held, alone_back}
use Rattle.laid.proofs.Passes.{alone_passes}
use Rattle.laid.proofs.AlikeLaws.{lookups_alike}
use Rattle.build_rules.specs.Valid.{fully_valid}
use Rattle.write_numbers.specs.Roster.{state_of}
use Rattle.build_tables.specs.Table.{free_standing}
use Rattle.write.specs.Write.{has_empty, image_for, too_long, write_answer, laid_by, image_after}
use Rattle.demands.specs.Success.{Success, SuccessSays, SuccessLays, SuccessReadsBack, SuccessPasses, SuccessAlike}
use Rattle.demands.proofs.Writable.{free_standing_writable}

-- ---- what a success says

-- every test passed, and the answer is the one at the end
record Passed (whole root many empty long : Bool) (good answer : Result Image Refusal) : Type 0 where
  pub whole_is : whole ≡ true
  pub root_is : root ≡ true
  pub many_is : many ≡ false
  pub empty_is : empty ≡ false
  pub long_is : long ≡ false
  pub answer_is : good ≡ answer

module _ (good : Result Image Refusal) (start end size : ℕ) where
  passed : (whole root many empty long : Bool)
      → pick whole (pick root (pick many (Err TooManyFilterWords) (pick empty (Err EmptyKey) (pick long (Err ImageTooLong) good))) (Err TableUnknown)) (Err MemoryBroken)
      ≡ Ok (record { start = start; end = end; length = size }) → Passed whole root many empty long good (Ok (record { start = start; end = end; length = size }))
  unfolding pick
  passed false root many empty long e = absurd (let z : ◌≡◌ {A = ℕ} 0 1 = cc in omega arith)
  passed true false many empty long e = absurd (let z : ◌≡◌ {A = ℕ} 0 1 = cc in omega arith)
  passed true true true empty long e = absurd (let z : ◌≡◌ {A = ℕ} 0 1 = cc in omega arith)
  passed true true false true long e = absurd (let z : ◌≡◌ {A = ℕ} 0 1 = cc in omega arith)
  passed true true false false true e = absurd (let z : ◌≡◌ {A = ℕ} 0 1 = cc in omega arith)
  passed true true false false false e = record { whole_is = refl; root_is = refl; many_is = refl; empty_is = refl; long_is = refl; answer_is = e }

neither : (p q : Bool) → (p || q) ≡ false → (p ≡ false) × (q ≡ false)
neither true q e = absurd (let z : ◌≡◌ {A = ℕ} 0 1 = cc in omega arith)
neither false q e = (refl, e)

not_too_long : (room size : ℕ) → too_long room size ≡ false → (size ≤ longest_file) × (size ≤ room)
unfolding too_long
not_too_long room size e = let (file, buffer) = neither (ltb longest_file size) (ltb room size) e in (ltb-false _ _ file, ltb-false _ _ buffer)

ok_same : {i j : Image} → ◌≡◌ {A = Result Image Refusal} (Ok i) (Ok j) → i ≡ j
ok_same e = cc

pub success : SuccessSays
unfolding write_answer
success rule filter ws ar t room start end size e =
    let image = length (image_for rule filter ws ar t) in
    let good : Result Image Refusal = Ok (record { start = header_size; end = header_size + chunk_size filter (length (state_of ws ar t).members); length = image }) in
    let p = passed good start end size (fully_valid ws ar) (free_standing ws t) (ltb most_filter filter) (has_empty (state_of ws ar) deepest t) (too_long room image) e in
    let (short, fits) = not_too_long room image p.long_is in
    let same : ◌≡◌ {A = Image} (record { start = header_size; end = header_size + chunk_size filter (length (state_of ws ar t).members); length = image }) (record { start = start; end = end; length = size }) =
    ok_same p.answer_is in
    let starts_is = ap (λ (i : Image). i.start) same in
    let ends_is = ap (λ (i : Image). i.end) same in
    let long : size ≡ image = sym (ap (λ (i : Image). i.length) same) in record {
      starts = sym starts_is;
      ends = sym ends_is;
      long = long;
      whole = p.whole_is;
      root = p.root_is;
      named = p.empty_is;
      few = ltb-false _ _ p.many_is;
      fits = omega arith;
      short = omega arith;
    }

-- ---- the file

-- what stands in the buffer
after_success : (rule : ℕ → ℕ) (filter : ℕ) (ws ar buffer : List ℕ) (t start end size : ℕ) → write_answer rule filter ws ar t (length buffer) ≡ Ok (record { start = start; end = end; length = size })
    → image_after rule filter ws ar t buffer ≡ put_at buffer 0 (image_for rule filter ws ar t)
unfolding image_after laid_by
after_success rule filter ws ar buffer t start end size e = ap (λ (answer : Result Image Refusal). laid_by answer (image_for rule filter ws ar t) buffer) e

pub success_lays : SuccessLays
success_lays rule filter ws ar buffer t start end size e =
    let s = success rule filter ws ar t (length buffer) start end size e in
    rw (after_success rule filter ws ar buffer t start end size e, s.long) (part-put buffer 0 (image_for rule filter ws ar t) (omega arith))

module _ (rule : ℕ → ℕ) (filter : ℕ) (ws ar buffer : List ℕ) (t start end size : ℕ) (e : write_answer rule filter ws ar t (length buffer) ≡ Ok (record { start = start; end = end; length = size })) where
  made : Success rule filter ws ar t (length buffer) start end size
  made = success rule filter ws ar t (length buffer) start end size e

  pub writable : Writable (state_of ws ar) deepest t
  writable = free_standing_writable ws ar made.whole t made.root

  pub short_image : length (image_of rule filter (state_of ws ar) t) ≤ longest_file
  unfolding image_for
  short_image = omega (arith, made.long, made.short)

  pub file_is : take size (image_after rule filter ws ar t buffer) ≡ image_of rule filter (state_of ws ar) t
  unfolding image_for
  file_is = success_lays rule filter ws ar buffer t start end size e

-- a file of the bytes laid reads back, with all that is nested in it
pub success_back : SuccessReadsBack
success_back lay ws ar buffer t start end size e =
    rw (file_is lay.manner.byte lay.filter ws ar buffer t start end size e) (alone_back lay (state_of ws ar) t (writable lay.manner.byte lay.filter ws ar buffer t start end size e) (short_image lay.manner.byte lay.filter ws ar buffer t start end size e))

-- and passes the check
pub success_passes : SuccessPasses
success_passes lay ws ar buffer t start end size e =
    rw (file_is lay.manner.byte lay.filter ws ar buffer t start end size e) (alone_passes lay (state_of ws ar) t (writable lay.manner.byte lay.filter ws ar buffer t start end size e) (short_image lay.manner.byte lay.filter ws ar buffer t start end size e))

-- and by both lookups each key answers alike in it
pub success_alike : SuccessAlike
unfolding Holds
success_alike rule filter ws ar buffer t start end size e =
    let image = image_of rule filter (state_of ws ar) t in
    let few = (made rule filter ws ar buffer t start end size e).few in
    rw (file_is rule filter ws ar buffer t start end size e)
    (lookups_alike rule filter (omega (arith, few)) image (state_of ws ar) deepest t header_size (root_held rule filter (state_of ws ar) t image (take-length image)) (short_image rule filter ws ar buffer t start end size e) refl (writable rule filter ws ar buffer t start end size e))
