-- A container's children: each item below it once, in order of arrival, and their indices as words.
use mathlib.Core.Path.{◌≡◌, refl, sym, ap, ◌∙◌}
use mathlib.Core.Logic.{⊎_elim}
use mathlib.Core.List.{List, [], ◌∷◌}
use Prim.Native.Nat.{ℕ, zero, suc, ◌+◌, ◌*◌, ◌≤◌, ◌<◌}
use native.Mathlib.Omega.{arith}
use borrow.Author.Tests.{eq-eqb, ne_eqb}
use lib.ListN.{length, get_or}
use Rattle.words.specs.Choice.{pick}
use Rattle.words.specs.Field.{word_at}
use Rattle.words.proofs.FieldLaws.{length-spelled}
use Rattle.model.specs.Table.{Rows, Has, times}
use Rattle.image.specs.Index.{laid_index}
use Rattle.image.specs.Plan.{word}
use Rattle.image.specs.Image.{children_in, children_of, child_words}
use Rattle.image.specs.Laid.{Holds}
use Rattle.words.proofs.ChoiceLaws.{eq_or_ne}
use Rattle.image.proofs.TimesLaws.{times_here, times_there, times_some, offset_once, Stands, index_stands}
use Rattle.image.proofs.LaidLaws.{holds_front, holds_next}
use Rattle.image.proofs.PlanLaws.{field-held}

-- x is an item of the table that was put below item i
pub record ChildIn (table : Rows) (i x : ℕ) : Type 0 where
  pub member : Has table.members x
  pub above : table.above x ≡ i

module _ (table : Rows) (i : ℕ) where
  children_hit : (c : ℕ) (l : List ℕ) → table.above c ≡ i → children_in table i (c ∷ l) ≡ c ∷ children_in table i l
  unfolding children_in pick
  children_hit c l e = rw (eq-eqb (table.above c) i e)

  children_miss : (c : ℕ) (l : List ℕ) → (table.above c ≡ i → ⊥) → children_in table i (c ∷ l) ≡ children_in table i l
  unfolding children_in pick
  children_miss c l n = rw (ne_eqb (table.above c) i n)

  -- an item that was put below i stands among the children as often as among the items, and no other does
  times_child : (x : ℕ) → table.above x ≡ i → (l : List ℕ) → times x (children_in table i l) ≡ times x l
  unfolding children_in
  times_child x e [] = refl
  times_child x e (c ∷ l) =
      ⊎_elim
      (λ hit. rw (children_hit c l hit)
      (⊎_elim
      (λ q. omega (arith, times_here x c (children_in table i l) q, times_here x c l q, times_child x e l))
      (λ q. omega (arith, times_there x c (children_in table i l) q, times_there x c l q, times_child x e l))
      (eq_or_ne c x)))
      (λ miss. rw (children_miss c l miss) (times_child x e l ∙ sym (times_there x c l (λ q. miss (ap table.above q ∙ e)))))
      (eq_or_ne (table.above c) i)

  times_other : (x : ℕ) → (table.above x ≡ i → ⊥) → (l : List ℕ) → times x (children_in table i l) ≡ 0
  unfolding children_in times
  times_other x n [] = refl
  times_other x n (c ∷ l) =
      ⊎_elim
      (λ hit. rw (children_hit c l hit) (times_there x c (children_in table i l) (λ q. n (ap table.above (sym q) ∙ hit)) ∙ times_other x n l))
      (λ miss. rw (children_miss c l miss) (times_other x n l))
      (eq_or_ne (table.above c) i)

  -- every child is an item that was put below the container
  pub child_in : (x : ℕ) → Has (children_of table i) x → ChildIn table i x
  unfolding children_of
  child_in x h =
      ⊎_elim
      (λ e. record { member = rw (times_child x e table.members) at h; above = e })
      (λ n. absurd (omega (arith, times_other x n table.members)))
      (eq_or_ne (table.above x) i)

  -- and the other way round
  pub child_has : (x : ℕ) → Has table.members x → table.above x ≡ i → Has (children_of table i) x
  unfolding children_of
  child_has x h e = rw (times_child x e table.members) h

  pub child_at_lem : (j : ℕ) → j < length (children_of table i) → ChildIn table i (get_or (children_of table i) j 0)
  child_at_lem j h = child_in (get_or (children_of table i) j 0) (times_some (get_or (children_of table i) j 0) (children_of table i) j h refl)

  -- and every such item is a child
  pub child_listed : (x : ℕ) → Has table.members x → table.above x ≡ i → Stands (children_of table i) x
  unfolding children_of
  child_listed x h e = index_stands (children_in table i table.members) x (rw (times_child x e table.members) h)

  -- once
  pub child_once : ((x : ℕ) → times x table.members ≤ 1) → (j k : ℕ) → j < length (children_of table i) → k < length (children_of table i)
      → get_or (children_of table i) j 0 ≡ get_or (children_of table i) k 0 → j ≡ k
  unfolding children_of
  child_once one j k a b e =
      offset_once (children_in table i table.members)
      (λ x. ⊎_elim (λ q. omega (arith, times_child x q table.members, one x)) (λ q. omega (arith, times_other x q table.members)) (eq_or_ne (table.above x) i))
      j k a b e

-- their words read back as their indices
pub child_word_lem : (rule : ℕ → ℕ) (table : Rows) (file l : List ℕ) (at j : ℕ) → ((k : ℕ) → k < length l → laid_index rule table (get_or l k 0) < 4294967296) → j < length l
    → Holds file at (child_words rule table l) → word_at file (at + 4 * j) ≡ laid_index rule table (get_or l j 0)
unfolding child_words
child_word_lem rule table file [] at j small h held = absurd (omega arith)
child_word_lem rule table file (c ∷ l) at zero small h held =
    let z : at + 4 * 0 ≡ at = omega arith in
    ap (word_at file) z ∙ field-held 4 file at (laid_index rule table c) (small 0 (omega arith)) (holds_front file at (word (laid_index rule table c)) (child_words rule table l) held)
child_word_lem rule table file (c ∷ l) at (suc j) small h held =
    let z : at + 4 * suc j ≡ at + 4 + 4 * j = omega arith in
    ap (word_at file) z
    ∙ child_word_lem rule table file l (at + 4) j (λ k less. small (suc k) (omega arith)) (omega arith)
    (holds_next file at (word (laid_index rule table c)) (child_words rule table l) (at + 4) (omega (arith, length-spelled 4 (laid_index rule table c))) held)
