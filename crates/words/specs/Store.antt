-- The one definition of a store, for bytes and for words alike, and of a part that is read.
use Rattle.std.specs.Prelude.{ℕ, suc, List, [], ◌∷◌, take, drop, set, replicate}

-- the n elements from `at` on; fewer where the list ends
abbrev pub part : List ℕ → ℕ → ℕ → List ℕ
part l at n = take n (drop at l)

-- the list with `vs` stored from `at` on; what would fall past its end is left out
unfoldable pub put_at : {A : Type 0} → List A → ℕ → List A → List A
put_at l at [] = l
put_at l at (v ∷ vs) = put_at (set l at v) (suc at) vs

-- n times v
unfoldable pub copies : {A : Type 0} → ℕ → A → List A
copies n v = replicate n v

abbrev pub zeros : ℕ → List ℕ
zeros n = copies n 0
