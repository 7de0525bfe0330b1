-- The prefixes of a key that an insert walks: those that end at each separator, then the key itself (document 01, 'The builder').
-- 256, which no byte equals, stands for no separator.
use Rattle.std.specs.Prelude.{ℕ, suc, List, [], ◌∷◌, map, take, drop, eqb}
use Rattle.words.specs.Choice.{pick}

-- where those prefixes end that reach into `rest`, which starts at index `at` of the key
unfoldable pub ends_from : ℕ → ℕ → List ℕ → List ℕ
ends_from sep at [] = at ∷ []
ends_from sep at (x ∷ []) = suc at ∷ []
ends_from sep at (x ∷ y ∷ rest) =
    pick (eqb x sep) (suc at ∷ ends_from sep (suc at) (y ∷ rest)) (ends_from sep (suc at) (y ∷ rest))

-- the prefixes, shortest first; of the empty key only itself
unfoldable pub prefixes : ℕ → List ℕ → List (List ℕ)
prefixes sep key = map (λ (n : ℕ). take n key) (ends_from sep 0 key)

-- the ends past index `from`, and the first of them
unfoldable pub ends_past : ℕ → List ℕ → ℕ → List ℕ
ends_past sep key from = ends_from sep from (drop from key)

unfoldable pub next_from : ℕ → ℕ → List ℕ → ℕ
next_from sep at [] = at
next_from sep at (x ∷ rest) = pick (eqb x sep) (suc at) (next_from sep (suc at) rest)

unfoldable pub next_end : ℕ → List ℕ → ℕ → ℕ
next_end sep key from = next_from sep from (drop from key)
