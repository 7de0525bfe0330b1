-- An insert's way along the prefixes of its key, from document 01, 'The builder'.
use Rattle.std.specs.Prelude.{ℕ, suc, ◌+◌, Bool, ◌&&◌, List, [], ◌∷◌, ◌++◌, eqb, ltb, length, set}
use Rattle.words.specs.Choice.{pick}
use Rattle.key_order.specs.Compare.{same_bytes}
use Rattle.model.specs.Table.{Content, Entry, entry_at, is_container}

-- the index of the item of table t with a key, or the count of the items where there is none
unfoldable pub find_key : List Entry → ℕ → List ℕ → ℕ
find_key [] t key = 0
find_key (e ∷ items) t key = pick (eqb e.table t && same_bytes e.key key) 0 (suc (find_key items t key))

abbrev pub is_there : List Entry → ℕ → List ℕ → Bool
is_there items t key = ltb (find_key items t key) (length items)

abbrev pub entry : ℕ → List ℕ → Content → ℕ → Entry
entry t key content above = record { table = t; key = key; content = content; above = above }

-- the item of a key: what it held is replaced, and it keeps its index; or it is made
unfoldable pub put_key : List Entry → ℕ → List ℕ → Content → ℕ → List Entry
put_key items t key content above =
    pick (is_there items t key)
    (set items (find_key items t key) (entry t key content (entry_at items (find_key items t key)).above))
    (items ++ (entry t key content above ∷ []))

-- the items afterwards; or 21, a parent on the path is no container
pub data Walked : Type 0 where
  walked : List Entry → Walked
  blocked : Walked

-- each prefix but the last names a container, which is made if missing; the last is the key itself
unfoldable pub walk : ℕ → Content → List (List ℕ) → List Entry → ℕ → Walked
walk t content [] items above = Walked.walked items
walk t content (key ∷ []) items above = Walked.walked (put_key items t key content above)
walk t content (prefix ∷ next ∷ rest) items above =
    pick (is_there items t prefix)
    (pick (is_container (entry_at items (find_key items t prefix)).content) (walk t content (next ∷ rest) items (find_key items t prefix)) Walked.blocked)
    (walk t content (next ∷ rest) (items ++ (entry t prefix Content.container above ∷ [])) (length items))

-- the room of the keys of some items
unfoldable pub key_room : List Entry → ℕ
key_room [] = 0
key_room (e ∷ items) = length e.key + key_room items
