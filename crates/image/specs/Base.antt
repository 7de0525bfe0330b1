-- The image as document 01 has it, without filter words: its definitions as they were before document 02 §11, word for word. With 0 filter words the image is this one.
use Rattle.std.specs.Prelude.{ℕ, zero, suc, ◌+◌, ◌*◌, ◌≡◌, List, [], ◌++◌, length}
use Rattle.words.specs.Store.{zeros}
use Rattle.key_hash.specs.Hash.{hash_by}
use Rattle.layout.specs.Limits.{deepest}
use Rattle.layout.specs.Kind.{kind_byte}
use Rattle.layout.specs.Sizes.{header_size, head_size, bucket_size, record_size}
use Rattle.model.specs.Table.{Content, Rows, State, kind_of, fragment_at}
use Rattle.image.specs.Index.{hashes_of, bucket_start, item_of}
use Rattle.image.specs.Plan.{Plan, word, words_of, records, payload}
use Rattle.image.specs.Image.{align_of, children_of, parent_index, child_words}
use Rattle.image.specs.Image as new

-- a table as it is laid, without keys and values: a bucket for each of its n items
unfoldable pub chunk_size : ℕ → ℕ
chunk_size n = head_size + (bucket_size + record_size) * n

module _ (p : Plan) where
  -- first word and bucket count, bucket words, records; then fragments and values
  unfoldable pub plan_bytes : ℕ → List ℕ
  plan_bytes at =
      (word 0x28000000 ++ word p.count) ++ (words_of p.first p.count
      ++ (records p (at + chunk_size p.count) p.count ++ payload p (at + chunk_size p.count) p.count))

module _ (rule : ℕ → ℕ) where
  module _ (inner : ℕ → ℕ → List ℕ) (state : State) (table : Rows) where
    -- a value's bytes, a nested table with all its chunks, or the children's indices
    unfoldable pub value_of : ℕ → Content → ℕ → List ℕ
    value_of i (Content.bytes value) at = value
    value_of i (Content.nested t) at = inner t at
    value_of i Content.container at = child_words rule table (children_of table i)

    -- the value pointer of a nested table covers its table chunk only
    unfoldable pub covers_of : ℕ → Content → ℕ
    covers_of i (Content.bytes value) = length value
    covers_of i (Content.nested t) = chunk_size (length (state t).members)
    covers_of i Content.container = 4 * length (children_of table i)

    -- a plan has a number of filter words now; `plan_bytes` above does not look at it
    unfoldable pub plan_of : Plan
    plan_of = record {
      count = length table.members;
      filter = 0;
      first = bucket_start (hashes_of rule table);
      hash = λ k. hash_by rule (table.key (item_of rule table k));
      parent = λ k. parent_index rule table (item_of rule table k);
      fragment = λ k. fragment_at table (item_of rule table k);
      kind = λ k. kind_byte (kind_of (table.content (item_of rule table k)));
      align = λ k. align_of (table.content (item_of rule table k));
      value = λ k at. value_of (item_of rule table k) (table.content (item_of rule table k)) at;
      covers = λ k. covers_of (item_of rule table k) (table.content (item_of rule table k));
    }

  -- table t at `at`, with all its chunks; nested tables as deep as d goes
  unfoldable pub table_bytes : State → ℕ → ℕ → ℕ → List ℕ
  table_bytes state zero t at = []
  table_bytes state (suc d) t at = plan_bytes (plan_of (λ u start. table_bytes state d u start) state (state t)) at

  -- the whole image: zeros for the header, then the root table
  unfoldable pub image_of : State → ℕ → List ℕ
  image_of state root = zeros header_size ++ table_bytes state deepest root header_size

-- the statement
abbrev pub NoWordsIsTheBase : Type 0
NoWordsIsTheBase = (rule : ℕ → ℕ) (state : State) (root : ℕ) → new.image_of rule 0 state root ≡ image_of rule state root
