-- The stretch of a file in each case, and at equal starts and ends.
use Prim.Native.Nat.{ℕ, ◌-◌, ◌≤◌}
use mathlib.Core.Path.{◌≡◌, subst}
use mathlib.Core.List.{List}
use lib.ListN.{length, take, drop}
use denote.Ref.{Bor}
use borrow.Author.Tests.{le-ltb}
use Rattle.words.specs.Choice.{pick}
use Rattle.view_part.specs.Part.{Viewed, stretch_at, stretch_of, Stretch}

pub viewed_same : (file r : Bor (List ℕ)) (at place : ℕ) (bytes content : List ℕ) → at ≡ place → bytes ≡ content → Viewed file r at bytes → Viewed file r place content
viewed_same file r at place bytes content a b viewed =
    subst (λ (n : ℕ). Viewed file r n content) a (subst (λ (xs : List ℕ). Viewed file r at xs) b viewed)

pub stretch_same : (file r : Bor (List ℕ)) (start end from to : ℕ) → from ≡ start → to ≡ end → Stretch file from to r → Stretch file start end r
stretch_same file r start end from to s e viewed =
    subst (λ (n : ℕ). Stretch file n end r) s (subst (λ (n : ℕ). Stretch file from n r) e viewed)

module _ (file : List ℕ) (start end : ℕ) (ordered : start ≤ end) (inside : end ≤ length file) where
  pub stretch_at_lem : stretch_at file start end ≡ start
  unfolding stretch_at pick
  stretch_at_lem = simp (le-ltb _ _ ordered, le-ltb _ _ inside)

  pub stretch_of_lem : stretch_of file start end ≡ take (end - start) (drop start file)
  unfolding stretch_of pick
  stretch_of_lem = simp (le-ltb _ _ ordered, le-ltb _ _ inside)

-- a stretch that lies in the file, both ways
module _ (file r : Bor (List ℕ)) (start end : ℕ) (ordered : start ≤ end) (inside : end ≤ length file.now) where
  pub stretch_in : Viewed file r start (take (end - start) (drop start file.now)) → Stretch file start end r
  unfolding stretch_at stretch_of pick
  stretch_in viewed = simp (le-ltb _ _ ordered, le-ltb _ _ inside) viewed

  pub stretch_out : Stretch file start end r → Viewed file r start (take (end - start) (drop start file.now))
  stretch_out viewed = viewed_same file r _ _ _ _ (stretch_at_lem file.now start end ordered inside) (stretch_of_lem file.now start end ordered inside) viewed
