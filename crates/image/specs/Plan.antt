-- The bytes of a table that is given index by index, as document 01 has them under 'Laying an image', with the filter words of document 02 §11.
use Rattle.std.specs.Prelude.{ℕ, zero, suc, ◌+◌, ◌-◌, ◌/◌, ◌%◌, List, [], ◌∷◌, ◌++◌, eqb, length}
use Rattle.words.specs.Choice.{pick}
use Rattle.words.specs.Bits.{bit_put}
use Rattle.words.specs.Store.{zeros}
use Rattle.words.specs.Field.{spelled}
use Rattle.words.specs.Align.{aligned}
use Rattle.layout.specs.Sizes.{chunk_size}

pub record Plan : Type 0 where
  pub count : ℕ
  -- how many filter words it has
  pub filter : ℕ
  -- a bucket's word
  pub first : ℕ → ℕ
  -- of the item at an index: hash, parent's index or `no_item`, key fragment, kind, alignment of its value
  pub hash : ℕ → ℕ
  pub parent : ℕ → ℕ
  pub fragment : ℕ → List ℕ
  pub kind : ℕ → ℕ
  pub align : ℕ → ℕ
  -- its value with all its chunks, if it starts at an offset; and the length of the chunk that the value pointer covers
  pub value : ℕ → ℕ → List ℕ
  pub covers : ℕ → ℕ

-- a word's four bytes
abbrev pub word : ℕ → List ℕ
word = spelled 4

-- f 0, f 1, .. up to n of them, as words
unfoldable pub words_of : (ℕ → ℕ) → ℕ → List ℕ
words_of f zero = []
words_of f (suc n) = words_of f n ++ word (f n)

-- the first word of a table: its top five bits say 5, its low 27 how many filter words there are
abbrev pub first_word : ℕ → ℕ
first_word filter = 0x28000000 + filter

-- a filter word with the two bits of a hash set
unfoldable pub with_hash : ℕ → ℕ → ℕ
with_hash w h = bit_put (bit_put w (h % 32)) (h / 32 % 32)

-- filter word k of so many, over the first n hashes: those that fall to it set their bits
unfoldable pub filter_word : (ℕ → ℕ) → ℕ → ℕ → ℕ → ℕ
filter_word hash filter k zero = 0
filter_word hash filter k (suc n) =
    pick (eqb (hash n / 32 % filter) k) (with_hash (filter_word hash filter k n) (hash n)) (filter_word hash filter k n)

module _ (p : Plan) where
  -- where the value of item k starts, if its key starts at `at`: alignment is counted from the file's start
  unfoldable pub value_start : ℕ → ℕ → ℕ
  value_start k at = aligned (at + length (p.fragment k)) (p.align k)

  -- a key fragment, zeros up to the value, and the value
  unfoldable pub item_bytes : ℕ → ℕ → List ℕ
  item_bytes k at = (p.fragment k ++ zeros (value_start k at - (at + length (p.fragment k)))) ++ p.value k (value_start k at)

  -- the fragments and values of the first k items, the first at `at`
  unfoldable pub payload : ℕ → ℕ → List ℕ
  payload at zero = []
  payload at (suc k) = payload at k ++ item_bytes k (at + length (payload at k))

  -- the offset of the key of item k
  unfoldable pub place : ℕ → ℕ → ℕ
  place at k = at + length (payload at k)

  -- a record's bytes, the key at `at`, the value at `start`: hash, parent, key start, key size, kind, one unused, value start and end
  unfoldable pub record_bytes : ℕ → ℕ → ℕ → List ℕ
  record_bytes k at start =
      word (p.hash k) ++ (word (p.parent k) ++ (word at ++ ((spelled 2 (length (p.fragment k)) ++ (p.kind k ∷ 0 ∷ [])) ++ (word start ++ word (start + p.covers k)))))

  unfoldable pub records : ℕ → ℕ → List ℕ
  records at zero = []
  records at (suc k) = records at k ++ record_bytes k (place at k) (value_start k (place at k))

  -- the filter words, over all hashes
  abbrev pub filter_bytes : List ℕ
  filter_bytes = words_of (λ k. filter_word p.hash p.filter k p.count) p.filter

  -- first word and bucket count, filter words, bucket words, records; then fragments and values
  unfoldable pub plan_bytes : ℕ → List ℕ
  plan_bytes at =
      (word (first_word p.filter) ++ word p.count) ++ (filter_bytes ++ (words_of p.first p.count
      ++ (records (at + chunk_size p.filter p.count) p.count ++ payload (at + chunk_size p.filter p.count) p.count)))
