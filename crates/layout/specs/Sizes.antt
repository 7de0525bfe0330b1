-- The sizes of what stands in a file, in bytes.
use Rattle.std.specs.Prelude.{ℕ, ◌+◌, ◌*◌}

-- the header of a file
abbrev pub header_size : ℕ
header_size = 24

-- the head of a table: its first word, and its count of buckets
abbrev pub head_size : ℕ
head_size = 8

-- the word of a bucket
abbrev pub bucket_size : ℕ
bucket_size = 4

-- a word of the filter
abbrev pub filter_size : ℕ
filter_size = 4

-- the record of an item
abbrev pub record_size : ℕ
record_size = 24

-- a table as it is laid, without keys and values: so many filter words, and a bucket for each of its n items
unfoldable pub chunk_size : ℕ → ℕ → ℕ
chunk_size filter n = head_size + filter_size * filter + (bucket_size + record_size) * n
