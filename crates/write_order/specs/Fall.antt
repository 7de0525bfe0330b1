-- Items by falling keys, as they stand in a chain.
use Rattle.std.specs.Prelude.{ℕ, zero, suc, ◌%◌, Bool, List, [], ◌∷◌, ◌++◌, eqb, get_or}
use Rattle.words.specs.Choice.{pick}
use Rattle.key_order.specs.Order.{precedes}

module _ (key : ℕ → List ℕ) where
  -- item i put among items by falling keys: behind those whose keys come behind its own
  unfoldable pub put_falling : ℕ → List ℕ → List ℕ
  put_falling i [] = i ∷ []
  put_falling i (j ∷ rest) = pick (precedes (key i) (key j)) (j ∷ put_falling i rest) (i ∷ j ∷ rest)

  -- those of the first k items that a test takes, by falling keys
  unfoldable pub falling : (ℕ → Bool) → List ℕ → ℕ → List ℕ
  falling test items zero = []
  falling test items (suc k) = pick (test (get_or items k 0)) (put_falling (get_or items k 0) (falling test items k)) (falling test items k)

  -- which of some items i is put behind; `last` if it is put before all
  unfoldable pub last_above : ℕ → ℕ → List ℕ → ℕ
  last_above i last [] = last
  last_above i last (j ∷ rest) = pick (precedes (key i) (key j)) (last_above i j rest) last

-- whether item i is in bucket b of n
unfoldable pub in_bucket : (ℕ → ℕ) → ℕ → ℕ → ℕ → Bool
in_bucket hash n b i = eqb (hash i % n) b

-- the lists before list b, one behind the other
unfoldable pub joined : (ℕ → List ℕ) → ℕ → List ℕ
joined lists zero = []
joined lists (suc b) = joined lists b ++ lists b
