-- A container's children and their words, as a pass over the items makes them.
use mathlib.Core.Path.{◌≡◌, refl, sym}
use mathlib.Core.Bool.{Bool, true, false}
use mathlib.Core.List.{List, [], ◌∷◌, ◌++◌, append_assoc}
use Prim.Native.Nat.{ℕ, ◌*◌}
use native.Mathlib.Omega.{arith}
use lib.Dec.{eqb}
use lib.ListN.{length, length-append}
use Rattle.words.specs.Choice.{pick}
use Rattle.words.proofs.FieldLaws.{length-spelled}
use Rattle.model.specs.Table.{Rows}
use Rattle.image.specs.Index.{laid_index}
use Rattle.image.specs.Plan.{word}
use Rattle.image.specs.Image.{children_in, child_words}

pub pick-append : (t : Bool) (c : ℕ) (a b : List ℕ) → pick t (c ∷ a ++ b) (a ++ b) ≡ pick t (c ∷ a) a ++ b
unfolding pick
pick-append true c a b = refl
pick-append false c a b = refl

pub children_append : (table : Rows) (i : ℕ) (l m : List ℕ) → children_in table i (l ++ m) ≡ children_in table i l ++ children_in table i m
unfolding children_in
children_append table i [] m = refl
children_append table i (c ∷ l) m =
    rw (children_append table i l m) (pick-append (eqb (table.above c) i) c (children_in table i l) (children_in table i m))

module _ (rule : ℕ → ℕ) (table : Rows) where
  pub words_append : (l m : List ℕ) → child_words rule table (l ++ m) ≡ child_words rule table l ++ child_words rule table m
  unfolding child_words
  words_append [] m = refl
  words_append (c ∷ l) m = rw (words_append l m) (sym (append_assoc (word (laid_index rule table c)) (child_words rule table l) (child_words rule table m)))

  pub length-child_words : (l : List ℕ) → length (child_words rule table l) ≡ 4 * length l
  unfolding child_words
  length-child_words [] = refl
  length-child_words (c ∷ l) =
      omega (arith, length-append (word (laid_index rule table c)) (child_words rule table l), length-spelled 4 (laid_index rule table c), length-child_words l)
