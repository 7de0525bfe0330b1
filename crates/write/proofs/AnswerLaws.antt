-- What a write answers and lays, case by case.
use Rattle.std.specs.Prelude.{Result, Ok, Err}
use Rattle.write.specs.declared.Image.{Image}
use mathlib.Core.Path.{◌≡◌, refl, sym, ap, ◌∙◌}
use mathlib.Core.Bool.{Bool, true, false, ◌||◌}
use mathlib.Core.List.{List, ◌++◌}
use Prim.Native.Nat.{ℕ, ◌+◌, ◌*◌, ◌≤◌, ◌<◌}
use native.Mathlib.Omega.{arith}
use borrow.Author.Tests.{lt-ltb, le-ltb}
use lib.Dec.{ltb}
use lib.ListN.{length, take, drop}
use Rattle.words.specs.Choice.{pick}
use Rattle.words.specs.Store.{put_at}
use Rattle.words.proofs.ChoiceLaws.{pick_true, pick-false, or_one}
use Rattle.words.proofs.StoreLaws.{put_front}
use Rattle.layout.specs.Limits.{longest_file, deepest, most_tables, most_filter}
use Rattle.layout.specs.declared.refusal.Refusal.{Refusal}
use Rattle.layout.specs.declared.refusal.Refusal.TheVariants.{MemoryBroken, TableUnknown, TooManyFilterWords, EmptyKey, ImageTooLong}
use Rattle.build_rules.specs.Valid.{fully_valid}
use Rattle.layout.specs.Sizes.{header_size, chunk_size}
use Rattle.write_parts.specs.Numbered.{slot_count, numbered_image}
use Rattle.write_numbers.specs.Roster.{state_of}
use Rattle.build_tables.specs.Table.{free_standing}
use Rattle.write.specs.Write.{has_empty, too_long, image_for, write_answer, laid_by, image_after}
use Rattle.write.specs.Answer.{size_answer, fit_answer, table_answer}
use Rattle.write_slots.specs.NumberedAs.{NumberedAs}
use Rattle.write.proofs.NumberedLaws.{numbered_image_lem, numbered_count}

-- ---- an answer, and what it lays

pub record Given (answer r : Result Image Refusal) (image before after : List ℕ) : Type 0 where
  pub answers : r ≡ answer
  pub lays : after ≡ laid_by answer image before

nothing_laid : (why : Refusal) (image before : List ℕ) → before ≡ laid_by (Err why) image before
unfolding laid_by
nothing_laid why image before = refl

refused : (answer : Result Image Refusal) (image before : List ℕ) (why : Refusal) → Err why ≡ answer → Given answer (Err why) image before before
refused answer image before why e = record { answers = e; lays = nothing_laid why image before ∙ ap (λ (a : Result Image Refusal). laid_by a image before) e }

all_laid : (start end size : ℕ) (image before : List ℕ) → put_at before 0 image ≡ laid_by (Ok (record { start = start; end = end; length = size })) image before
unfolding laid_by
all_laid start end size image before = refl

-- ---- by size

module _ (filter room count size : ℕ) where
  size_long : longest_file < size → Err ImageTooLong ≡ size_answer filter room count size
  unfolding size_answer too_long
  size_long h = sym (pick_true (Err ImageTooLong) (Ok (record { start = header_size; end = header_size + chunk_size filter count; length = size })) (ap (λ (b : Bool). b || ltb room size) (lt-ltb _ _ h)))

  size_wide : room < size → Err ImageTooLong ≡ size_answer filter room count size
  unfolding size_answer too_long
  size_wide h = sym (pick_true (Err ImageTooLong) (Ok (record { start = header_size; end = header_size + chunk_size filter count; length = size })) (or_one (ltb longest_file size) (ltb room size) (lt-ltb _ _ h)))

  size_fits : size ≤ longest_file → size ≤ room → Ok (record { start = 24; end = header_size + chunk_size filter count; length = size }) ≡ size_answer filter room count size
  unfolding size_answer too_long
  size_fits h k = sym (pick-false (Err ImageTooLong) (Ok (record { start = header_size; end = header_size + chunk_size filter count; length = size })) (ap (λ (b : Bool). b || ltb room size) (le-ltb _ _ h) ∙ le-ltb _ _ k))

chunk_is : (filter count : ℕ) → 24 + (8 + 4 * filter + 28 * count) ≡ header_size + chunk_size filter count
unfolding chunk_size
chunk_is filter count = refl

module _ (filter : ℕ) (numbered ar before : List ℕ) (t : ℕ) where
  -- the answer from the numbered table
  abbrev pub FromNumbered : Result Image Refusal → List ℕ → Type 0
  FromNumbered r after = Given (fit_answer filter numbered ar t (length before)) r (numbered_image filter numbered ar t) before after

  pub numbered_long : longest_file < length (numbered_image filter numbered ar t) → FromNumbered (Err ImageTooLong) before
  unfolding fit_answer
  numbered_long h = refused _ (numbered_image filter numbered ar t) before ImageTooLong (size_long filter (length before) (slot_count numbered t) (length (numbered_image filter numbered ar t)) h)

  pub numbered_wide : length before < length (numbered_image filter numbered ar t) → FromNumbered (Err ImageTooLong) before
  unfolding fit_answer
  numbered_wide h = refused _ (numbered_image filter numbered ar t) before ImageTooLong (size_wide filter (length before) (slot_count numbered t) (length (numbered_image filter numbered ar t)) h)

  pub numbered_laid : (size count : ℕ) (after : List ℕ) → size ≡ length (numbered_image filter numbered ar t) → size ≤ longest_file → size ≤ length before → count ≡ slot_count numbered t
      → after ≡ put_at before 0 (numbered_image filter numbered ar t) → FromNumbered (Ok (record { start = 24; end = 24 + (8 + 4 * filter + 28 * count); length = size })) after
  unfolding fit_answer
  numbered_laid size count after es h k ec ea =
      let e : Ok (record { start = 24; end = 24 + (8 + 4 * filter + 28 * count); length = size }) ≡ size_answer filter (length before) (slot_count numbered t) (length (numbered_image filter numbered ar t)) =
      ap (λ (n : ℕ). Ok (record { start = 24; end = n; length = size })) (chunk_is filter count) ∙ size_fits filter (length before) count size h k ∙ ap (λ (n : ℕ). size_answer filter (length before) n size) ec
      ∙ ap (λ (n : ℕ). size_answer filter (length before) (slot_count numbered t) n) es in
      record {
        answers = e;
        lays = ea ∙ all_laid 24 (24 + (8 + 4 * filter + 28 * count)) size (numbered_image filter numbered ar t) before ∙ ap (λ (a : Result Image Refusal). laid_by a (numbered_image filter numbered ar t) before) e;
      }

-- ---- the part of the buffer that is lent

pub laid_front : (size : ℕ) (before part image : List ℕ) → length image ≤ size → part ≡ put_at (take size before) 0 image → part ++ drop size before ≡ put_at before 0 image
laid_front size before part image h e = ap (λ (l : List ℕ). l ++ drop size before) e ∙ put_front size before 0 image (omega arith)

-- ---- from the roster

module _ (rule : ℕ → ℕ) (filter : ℕ) (ws ar before : List ℕ) (t : ℕ) where
  -- the answer once no key is empty, once the table is known, and once the memory is valid
  abbrev answer_named : Result Image Refusal
  answer_named = size_answer filter (length before) (length (state_of ws ar t).members) (length (image_for rule filter ws ar t))

  abbrev answer_known : Result Image Refusal
  answer_known = pick (ltb most_filter filter) (Err TooManyFilterWords) (table_answer rule filter ws ar t (length before))

  abbrev answer_valid : Result Image Refusal
  answer_valid = pick (free_standing ws t) answer_known (Err TableUnknown)

  abbrev pub FromTable : Result Image Refusal → List ℕ → Type 0
  FromTable r after = Given (table_answer rule filter ws ar t (length before)) r (image_for rule filter ws ar t) before after

  pub table_empty : {told : Bool} → told ≡ has_empty (state_of ws ar) deepest t → told ≡ true → FromTable (Err EmptyKey) before
  unfolding table_answer
  table_empty is e = refused _ (image_for rule filter ws ar t) before EmptyKey (sym (pick_true (Err EmptyKey) answer_named (sym is ∙ e)))

  pub table_indexed : {told : Bool} → told ≡ has_empty (state_of ws ar) deepest t → told ≡ false → (numbered after : List ℕ) (r : Result Image Refusal) → NumberedAs rule ws ar numbered → t < most_tables
      → r ≡ fit_answer filter numbered ar t (length before) → after ≡ laid_by (fit_answer filter numbered ar t (length before)) (numbered_image filter numbered ar t) before → FromTable r after
  unfolding table_answer fit_answer
  table_indexed is none numbered after r s l e f =
      let image : numbered_image filter numbered ar t ≡ image_for rule filter ws ar t = numbered_image_lem filter ws ar numbered s t l in
      let same : size_answer filter (length before) (slot_count numbered t) (length (numbered_image filter numbered ar t)) ≡ pick (has_empty (state_of ws ar) deepest t) (Err EmptyKey) answer_named =
      ap (λ (n : ℕ). size_answer filter (length before) n (length (numbered_image filter numbered ar t))) (numbered_count filter ws ar numbered s t l)
      ∙ ap (λ (x : List ℕ). size_answer filter (length before) (length (state_of ws ar t).members) (length x)) image
      ∙ sym (pick-false (Err EmptyKey) answer_named (sym is ∙ none)) in
      record {
        answers = e ∙ same;
        lays = f ∙ ap (λ (a : Result Image Refusal). laid_by a (numbered_image filter numbered ar t) before) same
            ∙ ap (λ (x : List ℕ). laid_by (pick (has_empty (state_of ws ar) deepest t) (Err EmptyKey) answer_named) x before) image;
      }

  -- ---- the whole answer

  abbrev pub FromWrite : Result Image Refusal → List ℕ → Type 0
  FromWrite r after = Given (write_answer rule filter ws ar t (length before)) r (image_for rule filter ws ar t) before after

  write_is : write_answer rule filter ws ar t (length before) ≡ pick (fully_valid ws ar) answer_valid (Err MemoryBroken)
  unfolding write_answer table_answer size_answer
  write_is = refl

  pub write-broken : fully_valid ws ar ≡ false → FromWrite (Err MemoryBroken) before
  write-broken e = refused _ (image_for rule filter ws ar t) before MemoryBroken (sym (write_is ∙ pick-false answer_valid (Err MemoryBroken) e))

  module _ (ok : fully_valid ws ar ≡ true) where
    write-valid : write_answer rule filter ws ar t (length before) ≡ answer_valid
    write-valid = write_is ∙ pick_true answer_valid (Err MemoryBroken) ok

    pub write_unknown : free_standing ws t ≡ false → FromWrite (Err TableUnknown) before
    write_unknown e = refused _ (image_for rule filter ws ar t) before TableUnknown (sym (write-valid ∙ pick-false answer_known (Err TableUnknown) e))

    module _ (free : free_standing ws t ≡ true) where
      write_known : write_answer rule filter ws ar t (length before) ≡ answer_known
      write_known = write-valid ∙ pick_true answer_known (Err TableUnknown) free

      pub write_many : most_filter < filter → FromWrite (Err TooManyFilterWords) before
      write_many h =
          refused _ (image_for rule filter ws ar t) before TooManyFilterWords
          (sym (write_known ∙ pick_true (Err TooManyFilterWords) (table_answer rule filter ws ar t (length before)) (lt-ltb _ _ h)))

      pub index_and_write : filter ≤ most_filter → (r : Result Image Refusal) (after : List ℕ) → r ≡ table_answer rule filter ws ar t (length before)
          → after ≡ laid_by (table_answer rule filter ws ar t (length before)) (image_for rule filter ws ar t) before → FromWrite r after
      index_and_write h r after er ea =
          let same : table_answer rule filter ws ar t (length before) ≡ write_answer rule filter ws ar t (length before) =
          sym (write_known ∙ pick-false (Err TooManyFilterWords) (table_answer rule filter ws ar t (length before)) (le-ltb _ _ h)) in
          record { answers = er ∙ same; lays = ea ∙ ap (λ (a : Result Image Refusal). laid_by a (image_for rule filter ws ar t) before) same }

  pub image_after_lem : laid_by (write_answer rule filter ws ar t (length before)) (image_for rule filter ws ar t) before ≡ image_after rule filter ws ar t before
  unfolding image_after
  image_after_lem = refl
