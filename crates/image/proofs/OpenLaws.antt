-- A laid plan opens as a table of its items, and each item reads as laid.
use Rattle.std.specs.Prelude.{Ok}
use mathlib.Core.Path.{◌≡◌}
use mathlib.Core.List.{List, [], ◌∷◌, ◌++◌}
use Prim.Native.Nat.{ℕ, ◌+◌, ◌-◌, ◌*◌, ◌%◌, ◌/◌, ◌^◌, ◌≤◌, ◌<◌}
use native.Mathlib.Omega.{arith}
use lib.ListN.{length, get_or, length-append}
use borrow.Author.Tests.{le-ltb}
use Rattle.words.specs.Choice.{pick}
use Rattle.words.specs.Field.{spelled, field}
use Rattle.words.specs.Bits.{bloom_count, bloom_shift}
use Rattle.words.proofs.FieldLaws.{length-spelled}
use Rattle.layout.specs.Limits.{longest_file}
use Rattle.layout.specs.Table.{table_of, table_in, open_table}
use Rattle.layout.specs.Item.{item_at}
use Rattle.layout.proofs.AnswerLaws.{pointer_inside_is}
use Rattle.layout.specs.Sizes.{chunk_size}
use Rattle.image.specs.Plan.{Plan, word, first_word, record_bytes, plan_bytes}
use Rattle.image.specs.Laid.{Holds}
use Rattle.image.specs.Fits.{PlanFits, opened_as, laid_item}
use Rattle.image.proofs.LaidLaws.{holds_front, holds_next, holds_first}
use Rattle.image.proofs.PlanLaws.{field-held, key_start, value_from, chunk_fits, offset_fits, read_mark, read_count, read_record, value_ends}

table_laid : (at w n : ℕ) → table_of at (8 + 4 * w + 28 * n) w n ≡ Ok (opened_as at w n)
unfolding table_of pick opened_as
table_laid at w n =
    let items : 8 + 4 * w + 28 * n - (8 + 4 * w + 4 * n) ≡ 24 * n = omega arith in
    let even : 24 * n % 24 ≡ 0 = omega arith in
    let count : 24 * n / 24 ≡ n = omega arith in
    rw (le-ltb (8 + 4 * w + 28 * n) (8 + 4 * w) (omega arith), le-ltb (8 + 4 * w + 28 * n) (8 + 4 * w + 4 * n) (omega arith), items, even, count)

-- the low 27 bits of the first word are the number of filter words, the top five are 5
pub mark_count : (w : ℕ) → w < 2 ^ 27 → bloom_count (first_word w) ≡ w
unfolding bloom_count
mark_count w few = omega arith

pub mark_shift : (w : ℕ) → w < 2 ^ 27 → bloom_shift (first_word w) ≡ 5
unfolding bloom_shift
mark_shift w few = omega arith

module _ (img : List ℕ) (p : Plan) (at : ℕ) (held : Holds img at (plan_bytes p at)) (short : length img ≤ longest_file) where
  -- the table opens with all its items
  pub laid_opens : p.filter < 2 ^ 27 → at % 4 ≡ 0 → open_table img at (at + chunk_size p.filter p.count) ≡ Ok (opened_as at p.filter p.count)
  unfolding open_table table_in pick chunk_size
  laid_opens few even =
      let l : at + (8 + 4 * p.filter + 28 * p.count) ≤ length img = chunk_fits img p at held in
      let long : at + (8 + 4 * p.filter + 28 * p.count) - at ≡ 8 + 4 * p.filter + 28 * p.count = omega arith in
      rw (
        le-ltb longest_file (length img) short,
        pointer_inside_is (length img) at (at + (8 + 4 * p.filter + 28 * p.count)) 4 (omega arith) even l,
        long,
        le-ltb (8 + 4 * p.filter + 28 * p.count) 8 (omega arith),
        read_mark img p at held few,
        mark_count p.filter few,
        read_count img p at held (omega arith),
      )
      (table_laid at p.filter p.count)

  -- each item reads as laid
  pub laid_item_lem : PlanFits p → (k : ℕ) → k < p.count → item_at img (opened_as at p.filter p.count) k ≡ laid_item p at k
  unfolding item_at opened_as laid_item record_bytes
  laid_item_lem fits k l =
      let r = at + (8 + 4 * p.filter + 4 * p.count) + 24 * k in
      let s = key_start img p at held k in
      let v = value_from img p at held k in
      let here : at + 8 + 4 * p.filter + 4 * p.count + 24 * k ≡ r = omega arith in
      let size = length (p.fragment k) in
      let f0 = word (p.hash k) in
      let f1 = word (p.parent k) in
      let f2 = word s in
      let f3 = spelled 2 size ++ (p.kind k ∷ 0 ∷ []) in
      let f4 = word v in
      let f5 = word (v + p.covers k) in
      let h0 : Holds img r (f0 ++ (f1 ++ (f2 ++ (f3 ++ (f4 ++ f5))))) = rw here at (read_record img p at held k l) in
      let h1 : Holds img (r + 4) (f1 ++ (f2 ++ (f3 ++ (f4 ++ f5)))) = holds_next img r f0 _ (r + 4) (omega (arith, length-spelled 4 (p.hash k))) h0 in
      let h2 : Holds img (r + 8) (f2 ++ (f3 ++ (f4 ++ f5))) = holds_next img (r + 4) f1 _ (r + 8) (omega (arith, length-spelled 4 (p.parent k))) h1 in
      let h3 : Holds img (r + 12) (f3 ++ (f4 ++ f5)) = holds_next img (r + 8) f2 _ (r + 12) (omega (arith, length-spelled 4 s)) h2 in
      let h4 : Holds img (r + 16) (f4 ++ f5) =
      holds_next img (r + 12) f3 _ (r + 16) (omega (arith, length-append (spelled 2 size) (p.kind k ∷ 0 ∷ []), length-spelled 2 size)) h3 in
      let h5 : Holds img (r + 20) f5 = holds_next img (r + 16) f4 _ (r + 20) (omega (arith, length-spelled 4 v)) h4 in
      let h6 : Holds img (r + 12) f3 = holds_front img (r + 12) f3 _ h3 in
      let h7 : Holds img (r + 14) (p.kind k ∷ 0 ∷ []) = holds_next img (r + 12) (spelled 2 size) _ (r + 14) (omega (arith, length-spelled 2 size)) h6 in
      let ends = value_ends img p at held k l in
      let keys = offset_fits img p at held k (omega arith) in
      let covered = fits.covered k v l in
      let e0 : field 4 img r ≡ p.hash k = field-held 4 img r (p.hash k) (fits.hash32 k l) (holds_front img r f0 _ h0) in
      let e1 : field 4 img (r + 4) ≡ p.parent k = field-held 4 img (r + 4) (p.parent k) (fits.parent32 k l) (holds_front img (r + 4) f1 _ h1) in
      let e2 : field 4 img (r + 8) ≡ s = field-held 4 img (r + 8) s (omega arith) (holds_front img (r + 8) f2 _ h2) in
      let e3 : field 2 img (r + 12) ≡ size = field-held 2 img (r + 12) size (fits.fragment16 k l) (holds_front img (r + 12) (spelled 2 size) _ h6) in
      let e4 : get_or img (r + 14) 0 ≡ p.kind k = holds_first img (r + 14) (p.kind k) _ h7 in
      let e5 : field 4 img (r + 16) ≡ v = field-held 4 img (r + 16) v (omega arith) (holds_front img (r + 16) f4 _ h4) in
      let e6 : field 4 img (r + 20) ≡ v + p.covers k = field-held 4 img (r + 20) (v + p.covers k) (omega arith) h5 in
      rw (e0, e1, e2, e3, e4, e5, e6)
