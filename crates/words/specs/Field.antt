-- Little-endian numbers in a list of bytes, over the width.
use Rattle.std.specs.Prelude.{ℕ, zero, suc, ◌+◌, ◌*◌, ◌/◌, ◌%◌, List, [], ◌∷◌}
use Rattle.words.specs.Store.{part}

-- the number that bytes spell, lowest first
unfoldable pub little_endian : List ℕ → ℕ
little_endian [] = 0
little_endian (b ∷ bytes) = b + 256 * little_endian bytes

-- the n lowest bytes of a number, lowest first
unfoldable pub spelled : ℕ → ℕ → List ℕ
spelled zero v = []
spelled (suc n) v = v % 256 ∷ spelled n (v / 256)

-- the field of n bytes at `at`
unfoldable pub field : ℕ → List ℕ → ℕ → ℕ
field n bytes at = little_endian (part bytes at n)

abbrev pub half_at : List ℕ → ℕ → ℕ
half_at = field 2

abbrev pub word_at : List ℕ → ℕ → ℕ
word_at = field 4

abbrev pub long_at : List ℕ → ℕ → ℕ
long_at = field 8
