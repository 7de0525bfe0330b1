-- What measuring answers.
use Rattle.std.specs.Prelude.{ℕ, ltb, Option, Some, None}
use Rattle.words.specs.Choice.{pick}
use Rattle.layout.specs.Limits.{longest_file}

-- where what is measured ends, unless that is past the most bytes that an image may have
unfoldable pub measured : ℕ → Option ℕ
measured end = pick (ltb longest_file end) None (Some end)
