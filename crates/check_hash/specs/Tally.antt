-- The hash of a key from its back: what its end does to the hash of the front before it is to multiply by a weight and to add a sum. Both grow with
-- each byte in front.
use Rattle.std.specs.Prelude.{ℕ, ◌+◌, ◌*◌, ◌%◌, ◌^◌, List, [], ◌∷◌}
use Rattle.check_hash.specs.declared.tally.Tally.{Tally}

-- one byte more in front
unfoldable pub before : (ℕ → ℕ) → ℕ → Tally → Tally
before rule byte s = record {
  weight = (33 * s.weight) % 2 ^ 32;
  sum = (rule byte * s.weight + s.sum) % 2 ^ 32;
}

unfoldable pub prepend : (ℕ → ℕ) → List ℕ → Tally → Tally
prepend rule [] s = s
prepend rule (x ∷ rest) s = before rule x (prepend rule rest s)

-- the hash of a whole key: the front before it is empty, and has the hash 5381
unfoldable pub finish : Tally → ℕ
finish s = (5381 * s.weight + s.sum) % 2 ^ 32

-- the tally of no bytes
abbrev pub none : Tally
none = record { weight = 1; sum = 0 }
