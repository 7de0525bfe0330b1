-- What a list of bytes holds at an offset, and an image that bytes were laid into.
use Rattle.std.specs.Prelude.{ℕ, ◌+◌, ◌≡◌, List, length}
use Rattle.words.specs.Store.{part, put_at}

-- the list holds `bytes` at `at`
unfoldable pub Holds : List ℕ → ℕ → List ℕ → Type 0
Holds l at bytes = part l at (length bytes) ≡ bytes

-- `bytes` laid at `at`, and the end of them
pub record Laid (before after : List ℕ) (at : ℕ) (bytes : List ℕ) (end : ℕ) : Type 0 where
  pub end_is : end ≡ at + length bytes
  pub image_is : after ≡ put_at before at bytes
