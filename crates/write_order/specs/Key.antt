-- Tables of a builder's items by their keys.
use Rattle.std.specs.Prelude.{ℕ, ◌≤◌, ◌<◌, List, length}
use Rattle.layout.specs.Limits.{most_items}
use Rattle.layout.specs.Item.{no_item}
use Rattle.model.specs.Table.{Content, Rows, Has}
use Rattle.build_memory.specs.Memory.{least_words, key_of}

-- a table of the given items, by their keys alone
unfoldable pub keyed : List ℕ → List ℕ → List ℕ → Rows
keyed words arena members = record { members = members; key = key_of words arena; content = λ i. Content.container; above = λ i. no_item }

-- the words are long enough, and some items are such as they have room for
unfoldable pub Known : List ℕ → List ℕ → Type 0
Known words items = (least_words ≤ length words) × ((i : ℕ) → Has items i → i < most_items)
