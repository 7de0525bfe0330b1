-- The numbers of the fresh start, whatever the memory held.
use Prim.Native.Nat.{ℕ, ◌≤◌, ◌<◌}
use mathlib.Core.Path.{◌≡◌}
use mathlib.Core.List.{List}
use borrow.Author.Tests.{lt-leb, le-leb}
use lib.ListN.{length}
use Rattle.words.specs.Choice.{pick}
use Rattle.build_memory.specs.Memory.{least_words, fresh_start}
use Rattle.build_memory.specs.Answer.{started_number}

module _ (ws ar : List ℕ) where
  pub fresh_29 : length ws < least_words → started_number (fresh_start ws ar).answer ≡ 29
  unfolding fresh_start started_number pick
  fresh_29 h = simp (lt-leb _ _ h)

  pub fresh_0 : least_words ≤ length ws → started_number (fresh_start ws ar).answer ≡ 0
  unfolding fresh_start started_number pick
  fresh_0 h = simp (le-leb _ _ h)
