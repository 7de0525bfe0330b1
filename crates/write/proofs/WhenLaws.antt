-- Exactly when a write succeeds, and what it leaves beside the table.
use Rattle.std.specs.Prelude.{Result, Ok, Err}
use Rattle.layout.specs.declared.refusal.Refusal.{Refusal}
use Rattle.write.specs.declared.Image.{Image}
use Prim.Native.Nat.{ℕ, zero, suc, ◌+◌, ◌*◌, ◌≤◌, ◌<◌}
use mathlib.Core.Path.{◌≡◌, refl, sym, ap, ◌∙◌}
use mathlib.Core.Bool.{Bool, true, false, ◌&&◌, ◌||◌}
use mathlib.Core.Logic.{◌⊎◌, inl, inr, ⊎_elim}
use mathlib.Core.List.{List}
use native.Mathlib.Omega.{arith}
use borrow.Author.Tests.{eq-eqb, ltb-true, ltb-false, eqb-true}
use lib.Dec.{eqb, ltb}
use lib.ListN.{length, get_or, take, drop, length-append}
use lib.Seq.{take_at, take-take}
use Rattle.words.specs.Choice.{pick}
use Rattle.words.specs.Store.{put_at, zeros}
use Rattle.words.proofs.ChoiceLaws.{both}
use Rattle.words.proofs.BelowLaws.{some_below_lem, below_some}
use Rattle.words.proofs.StoreLaws.{part-put, drop_after, length-zeros}
use Rattle.layout.specs.declared.refusal.Refusal.TheVariants.{MemoryBroken, TableUnknown, TooManyFilterWords, EmptyKey, ImageTooLong}
use Rattle.layout.specs.Limits.{longest_file, deepest, most_filter}
use Rattle.layout.specs.Sizes.{header_size}
use Rattle.model.specs.Table.{Content, State}
use Rattle.build_memory.specs.Memory.{table_total, table_placed}
use Rattle.build_rules.specs.Valid.{fully_valid}
use Rattle.image.specs.Index.{index_in}
use Rattle.image.specs.Image.{table_bytes, image_of}
use Rattle.image.proofs.TimesLaws.{times_some, index_stands}
use Rattle.write_numbers.specs.Roster.{state_of}
use Rattle.build_tables.specs.Table.{free_standing}
use Rattle.write.specs.Write.{empty_held, has_empty, too_long, image_for, write_answer, written_number, laid_by, image_after}
use Rattle.write.specs.When.{EmptyIn, MayWrite, SucceedsExactly, SuccessKeepsRest, SuccessClearsHeader}
use Rattle.write.proofs.NumberLaws.{write_30, write_0}

-- ---- 30 is given just where a key is empty

either : (p q : Bool) → (p || q) ≡ true → (p ≡ true) ⊎ (q ≡ true)
either true q e = inl refl
either false q e = inr e

or_right : (p : Bool) {q : Bool} → q ≡ true → (p || q) ≡ true
or_right true e = refl
or_right false e = e

never : {A : Type 0} → false ≡ true → A
never e = absurd (let z : ◌≡◌ {A = ℕ} 0 1 = cc in omega arith)

module _ (state : State) where
  module _ (d : ℕ) where
    -- what an item holds has an empty key
    abbrev Below : Content → Type 0
    Below c = (u : ℕ) × (c ≡ Content.nested u) × EmptyIn state d u

    held-says : ((u : ℕ) → has_empty state d u ≡ true → EmptyIn state d u) → (c : Content) → empty_held (λ u. has_empty state d u) c ≡ true → Below c
    unfolding empty_held
    held-says says (Content.bytes value) e = never e
    held-says says (Content.nested u) e = (u, refl, says u e)
    held-says says Content.container e = never e

    held_found : ((u : ℕ) → EmptyIn state d u → has_empty state d u ≡ true) → (size : ℕ) (c : Content) → (size ≡ 0) ⊎ Below c
        → (eqb size 0 || empty_held (λ u. has_empty state d u) c) ≡ true
    unfolding empty_held
    held_found found size c (inl e) = simp (eq-eqb _ _ e)
    held_found found size c (inr (u, is, empty)) = or_right (eqb size 0) (ap (empty_held (λ u. has_empty state d u)) is ∙ found u empty)

  pub empty_says : (d t : ℕ) → has_empty state d t ≡ true → EmptyIn state d t
  unfolding has_empty EmptyIn
  empty_says zero t e = never e
  empty_says (suc d) t e =
      let (k, l, is) = some_below_lem _ (length (state t).members) e in
      (get_or (state t).members k 0, times_some (get_or (state t).members k 0) (state t).members k l refl, ⊎_elim (λ p. inl (eqb-true _ _ p)) (λ q. inr (held-says d (empty_says d) _ q)) (either _ _ is))

  pub empty_found : (d t : ℕ) → EmptyIn state d t → has_empty state d t ≡ true
  unfolding has_empty EmptyIn
  empty_found zero t e = absurd e
  empty_found (suc d) t (i, has, why) =
      let s = index_stands (state t).members i has in
      below_some _ (length (state t).members) (index_in (state t).members i) s.within (rw s.is (held_found d (empty_found d) _ _ why))

pub write_30_plain : (rule : ℕ → ℕ) (filter : ℕ) (ws ar : List ℕ) (t room : ℕ) → fully_valid ws ar ≡ true → t < table_total ws → table_placed ws t ≡ 0 → filter ≤ most_filter
    → EmptyIn (state_of ws ar) deepest t
    → written_number (write_answer rule filter ws ar t room) ≡ 30
write_30_plain rule filter ws ar t room ok known loose few empty = write_30 rule filter ws ar t room ok known loose few (empty_found (state_of ws ar) deepest t empty)

-- ---- exactly when a write succeeds

neither : (p q : Bool) → (p || q) ≡ false → (p ≡ false) × (q ≡ false)
neither true q e = never (sym e)
neither false q e = (refl, e)

-- no test refused
record Passed (whole free many empty file room : Bool) : Type 0 where
  pub whole_is : whole ≡ true
  pub free_is : free ≡ true
  pub many_is : many ≡ false
  pub empty_is : empty ≡ false
  pub file_is : file ≡ false
  pub room_is : room ≡ false

ok_same : {i j : Image} → ◌≡◌ {A = Result Image Refusal} (Ok i) (Ok j) → i ≡ j
ok_same e = cc

passed : (whole free many empty file room : Bool) (good : Result Image Refusal)
    → written_number (pick whole (pick free (pick many (Err TooManyFilterWords) (pick empty (Err EmptyKey) (pick (file || room) (Err ImageTooLong) good)))
    (Err TableUnknown)) (Err MemoryBroken)) ≡ 0
    → Passed whole free many empty file room
unfolding written_number pick
passed false free many empty file room good e = absurd (omega (arith, e))
passed true false many empty file room good e = absurd (omega (arith, e))
passed true true true empty file room good e = absurd (omega (arith, e))
passed true true false true file room good e = absurd (omega (arith, e))
passed true true false false true room good e = absurd (omega (arith, e))
passed true true false false false true good e = absurd (omega (arith, e))
passed true true false false false false good e = record { whole_is = refl; free_is = refl; many_is = refl; empty_is = refl; file_is = refl; room_is = refl }

module _ (rule : ℕ → ℕ) (filter : ℕ) (ws ar : List ℕ) (t room : ℕ) where
  succeeds : written_number (write_answer rule filter ws ar t room) ≡ 0 → MayWrite rule filter ws ar t room
  unfolding write_answer too_long free_standing
  succeeds e =
      let p = passed (fully_valid ws ar) (ltb t (table_total ws) && eqb (table_placed ws t) 0) (ltb most_filter filter) (has_empty (state_of ws ar) deepest t) (ltb longest_file (length (image_for rule filter ws ar t))) (ltb room (length (image_for rule filter ws ar t))) _ e in
      let (known, loose) = both (ltb t (table_total ws)) (eqb (table_placed ws t) 0) p.free_is in
      record {
        whole = p.whole_is;
        known = ltb-true _ _ known;
        loose = eqb-true _ _ loose;
        few = ltb-false _ _ p.many_is;
        named = λ empty. never (sym p.empty_is ∙ empty_found (state_of ws ar) deepest t empty);
        short = ltb-false _ _ p.file_is;
        fits = ltb-false _ _ p.room_is;
      }

  not_empty : (EmptyIn (state_of ws ar) deepest t → ⊥) → (found : Bool) → has_empty (state_of ws ar) deepest t ≡ found → has_empty (state_of ws ar) deepest t ≡ false
  not_empty none true e = absurd (none (empty_says (state_of ws ar) deepest t e))
  not_empty none false e = e

  written : (m : MayWrite rule filter ws ar t room) → write_answer rule filter ws ar t room ≡ Ok (record { start = 24; end = 24 + (8 + 4 * filter + 28 * length (state_of ws ar t).members); length = length (image_for rule filter ws ar t) })
  written m = write_0 rule filter ws ar t room m.whole m.known m.loose m.few (not_empty m.named _ refl) m.short m.fits

pub succeeds_exactly : SucceedsExactly
unfolding written_number
succeeds_exactly rule filter ws ar t room = (succeeds rule filter ws ar t room, λ m. ap written_number (written rule filter ws ar t room m))

-- ---- what it leaves

module _ (rule : ℕ → ℕ) (filter : ℕ) (ws ar buffer : List ℕ) (t start end size : ℕ) (e : write_answer rule filter ws ar t (length buffer) ≡ Ok (record { start = start; end = end; length = size })) where
  may : MayWrite rule filter ws ar t (length buffer)
  unfolding written_number
  may = succeeds rule filter ws ar t (length buffer) (ap written_number e)

  size_is : size ≡ length (image_for rule filter ws ar t)
  size_is =
      let said = sym e ∙ written rule filter ws ar t (length buffer) may in
      let same : ◌≡◌ {A = Image} (record { start = start; end = end; length = size }) _ = ok_same said in
      ap (λ (i : Image). i.length) same

  after_is : image_after rule filter ws ar t buffer ≡ put_at buffer 0 (image_for rule filter ws ar t)
  unfolding image_after laid_by
  after_is = ap (λ (answer : Result Image Refusal). laid_by answer (image_for rule filter ws ar t) buffer) e

image_header : (rule : ℕ → ℕ) (filter : ℕ) (ws ar : List ℕ) (t : ℕ) → (24 ≤ length (image_for rule filter ws ar t)) × (take 24 (image_for rule filter ws ar t) ≡ zeros 24)
unfolding image_for image_of
image_header rule filter ws ar t =
    let table = table_bytes rule filter (state_of ws ar) deepest t header_size in
    (omega (arith, length-append (zeros 24) table, length-zeros 24), take_at (zeros 24) table 24 (length-zeros 24))

pub success_rest : SuccessKeepsRest
success_rest rule filter ws ar buffer t start end size e =
    ap (drop size) (after_is rule filter ws ar buffer t start end size e) ∙ drop_after buffer 0 (image_for rule filter ws ar t) size (omega (arith, size_is rule filter ws ar buffer t start end size e))

pub success_header : SuccessClearsHeader
success_header rule filter ws ar buffer t start end size e =
    let (long, clear) = image_header rule filter ws ar t in
    let image = image_for rule filter ws ar t in
    let fits = (may rule filter ws ar buffer t start end size e).fits in
    ap (take 24) (after_is rule filter ws ar buffer t start end size e) ∙ sym (take-take 24 (length image) (put_at buffer 0 image) long)
    ∙ ap (take 24) (part-put buffer 0 image (omega (arith, fits))) ∙ clear
