-- A set of item indices, a bit each, in words of 64 bits.
use Rattle.std.specs.Prelude.{ℕ, ◌/◌, ◌%◌, ◌^◌, List, Bool, get_or, set, eqb}
use Rattle.std.specs.Int.Bits.{bit_or}

unfoldable pub has_bit : List ℕ → ℕ → Bool
has_bit bits at = eqb (get_or bits (at / 64) 0 / 2 ^ (at % 64) % 2) 1

unfoldable pub with_bit : List ℕ → ℕ → List ℕ
with_bit bits at = set bits (at / 64) (bit_or (get_or bits (at / 64) 0) (2 ^ (at % 64)))
