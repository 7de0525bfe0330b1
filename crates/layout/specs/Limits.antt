-- The limits of document 01, and of document 02 for the filter words.
use Rattle.std.specs.Prelude.{ℕ}

-- the bytes of a file
abbrev pub longest_file : ℕ
longest_file = 16777216

-- the bytes of a key that is inserted
abbrev pub longest_key : ℕ
longest_key = 1024

-- the items of all tables of a builder
abbrev pub most_items : ℕ
most_items = 1024

-- the tables of a builder
abbrev pub most_tables : ℕ
most_tables = 64

-- the height of a table that holds others
abbrev pub deepest : ℕ
deepest = 8

-- the filter words of a table that is laid
abbrev pub most_filter : ℕ
most_filter = 1024
