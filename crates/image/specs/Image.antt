-- The image of a table of the model, whole, as document 01 has it under 'Laying an image'.
use Rattle.std.specs.Prelude.{ℕ, zero, suc, ◌*◌, List, [], ◌∷◌, ◌++◌, eqb, length}
use Rattle.words.specs.Choice.{pick}
use Rattle.words.specs.Store.{zeros}
use Rattle.key_hash.specs.Hash.{hash_by}
use Rattle.layout.specs.Limits.{deepest}
use Rattle.layout.specs.Kind.{kind_byte}
use Rattle.layout.specs.Item.{no_item}
use Rattle.model.specs.Table.{Content, Rows, State, kind_of, is_child, fragment_at}
use Rattle.image.specs.Index.{hashes_of, bucket_start, item_of, laid_index}
use Rattle.layout.specs.Sizes.{header_size, chunk_size}
use Rattle.image.specs.Plan.{Plan, word, plan_bytes}

-- a value starts at a multiple of 8, a table and a container's children at one of 4
abbrev pub align_of : Content → ℕ
align_of (Content.bytes value) = 8
align_of (Content.nested t) = 4
align_of Content.container = 4

-- the children of item i among some items, in order
unfoldable pub children_in : Rows → ℕ → List ℕ → List ℕ
children_in table i [] = []
children_in table i (c ∷ rest) = pick (eqb (table.above c) i) (c ∷ children_in table i rest) (children_in table i rest)

-- all its children, in order of arrival
unfoldable pub children_of : Rows → ℕ → List ℕ
children_of table i = children_in table i table.members

module _ (rule : ℕ → ℕ) where
  -- the index of an item's parent; a root has none
  unfoldable pub parent_index : Rows → ℕ → ℕ
  parent_index table i = pick (is_child table i) (laid_index rule table (table.above i)) no_item

  -- the indices of some items, as words
  unfoldable pub child_words : Rows → List ℕ → List ℕ
  child_words table [] = []
  child_words table (c ∷ rest) = word (laid_index rule table c) ++ child_words table rest

  -- with so many filter words in every table
  module _ (filter : ℕ) (inner : ℕ → ℕ → List ℕ) (state : State) (table : Rows) where
    -- a value's bytes, a nested table with all its chunks, or the children's indices
    unfoldable pub value_of : ℕ → Content → ℕ → List ℕ
    value_of i (Content.bytes value) at = value
    value_of i (Content.nested t) at = inner t at
    value_of i Content.container at = child_words table (children_of table i)

    -- the value pointer of a nested table covers its table chunk only
    unfoldable pub covers_of : ℕ → Content → ℕ
    covers_of i (Content.bytes value) = length value
    covers_of i (Content.nested t) = chunk_size filter (length (state t).members)
    covers_of i Content.container = 4 * length (children_of table i)

    unfoldable pub plan_of : Plan
    plan_of = record {
      count = length table.members;
      filter = filter;
      first = bucket_start (hashes_of rule table);
      hash = λ k. hash_by rule (table.key (item_of rule table k));
      parent = λ k. parent_index table (item_of rule table k);
      fragment = λ k. fragment_at table (item_of rule table k);
      kind = λ k. kind_byte (kind_of (table.content (item_of rule table k)));
      align = λ k. align_of (table.content (item_of rule table k));
      value = λ k at. value_of (item_of rule table k) (table.content (item_of rule table k)) at;
      covers = λ k. covers_of (item_of rule table k) (table.content (item_of rule table k));
    }

  -- table t at `at`, with all its chunks; nested tables as deep as d goes
  unfoldable pub table_bytes : ℕ → State → ℕ → ℕ → ℕ → List ℕ
  table_bytes filter state zero t at = []
  table_bytes filter state (suc d) t at = plan_bytes (plan_of filter (λ u start. table_bytes filter state d u start) state (state t)) at

  -- the whole image: zeros for the header, then the root table
  unfoldable pub image_of : ℕ → State → ℕ → List ℕ
  image_of filter state root = zeros header_size ++ table_bytes filter state deepest root header_size
