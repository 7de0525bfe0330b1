-- Where a text is bad, in words that need no search.
use Rattle.std.specs.Prelude.{ℕ, ◌<◌, ◌≡◌, List, true, length, take, drop}
use Rattle.text.specs.Utf8.{step_len, first_bad, is_utf8}

-- the offset is below the length, what stands before it is UTF-8, and no character begins there
pub record BadText (s : List ℕ) (at : ℕ) : Type 0 where
  pub is : at ≡ first_bad s
  pub below : at < length s
  pub front : is_utf8 (take at s) ≡ true
  pub stops : step_len (drop at s) ≡ 0
