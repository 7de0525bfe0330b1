-- The way of an insert down the containers of its key, before anything is written; and what the rest will cost.
use Rattle.std.specs.Prelude.{ℕ, zero, ◌+◌, Bool, true, false, List, [], ◌∷◌, length, take, ltb, eqb}
use Rattle.words.specs.Choice.{pick}
use Rattle.key_order.specs.Prefix.{ends_past}
use Rattle.layout.specs.Kind.{container_kind}
use Rattle.build_memory.specs.Memory.{item_total, table_separator, item_kind}
use Rattle.build_memory.specs.Find.{find_key}
use Rattle.build_values.specs.declared.walk.Way.{Way}

-- clear: nothing but containers stands on the way; from: the length of the last container's key; parent: its index plus 1, or 0
abbrev pub way : Bool → ℕ → ℕ → Way
way clear from parent = record { clear = clear; from = from; parent = parent }

-- along the ends: a proper prefix that is a container is passed, another kind blocks, and the first that is missing ends the way
unfoldable pub descend : List ℕ → List ℕ → ℕ → List ℕ → List ℕ → ℕ → ℕ → Way
descend ws ar t key [] from parent = way true from parent
descend ws ar t key (e ∷ ends) from parent =
    let i = find_key ws ar t (take e key) in
    pick (ltb e (length key))
    (pick (ltb i (item_total ws)) (pick (eqb (item_kind ws i) container_kind) (descend ws ar t key ends e (i + 1)) (way false from parent)) (way true from parent))
    (way true from parent)

unfoldable pub way_of : List ℕ → List ℕ → ℕ → List ℕ → Way
way_of ws ar t key = descend ws ar t key (ends_past (table_separator ws t) key 0) 0 0

-- the sum of a list: of the ends of prefixes, their lengths
unfoldable pub sum : List ℕ → ℕ
sum [] = zero
sum (n ∷ ns) = n + sum ns
