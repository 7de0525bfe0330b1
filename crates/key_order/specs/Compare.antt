-- Equality of texts, as a test.
use Rattle.std.specs.Prelude.{ℕ, ◌-◌, Bool, true, false, ◌&&◌, List, [], ◌∷◌, length, leb, eqb}
use Rattle.words.specs.Store.{part}

unfoldable pub same_bytes : List ℕ → List ℕ → Bool
same_bytes [] [] = true
same_bytes [] (y ∷ b) = false
same_bytes (x ∷ a) [] = false
same_bytes (x ∷ a) (y ∷ b) = eqb x y && same_bytes a b

-- whether the first n bytes of the key end with the fragment
unfoldable pub ends_at : List ℕ → ℕ → List ℕ → Bool
ends_at key n frag = leb (length frag) n && same_bytes (part key (n - length frag) (length frag)) frag
