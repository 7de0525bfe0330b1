-- Finding the item that a key names, from document 01, 'Lookup'. How a table is read, its manner, is a parameter.
use Rattle.std.specs.Prelude.{◌≡◌, refl, ℕ, zero, suc, ◌+◌, ◌*◌, ◌-◌, ◌/◌, ◌%◌, ◌^◌, List, Bool, true, false, ◌&&◌, ltb, leb, eqb, Option, Some, None}
use Rattle.words.specs.Choice.{pick}
use Rattle.words.specs.Field.{word_at}
use Rattle.words.specs.Bits.{bit_set, bloom_shift}
use Rattle.key_hash.specs.Hash.{hash_by, plain, rule_of}
use Rattle.layout.specs.declared.table.Table.{Table}
use Rattle.layout.specs.Item.{item_at}
use Rattle.read_find.specs.declared.manner.Manner as code
use Rattle.read_find.specs.declared.manner.Lookup.{Lookup}
use Rattle.read_find.specs.declared.find.Run.{Run}
use Rattle.read_chain.specs.Chain.{key_of, names}

-- how a table is read: what a byte counts in the hash, and by how much the hash is shifted for the filter's second bit, from the table's first word
pub record Manner : Type 0 where
  pub byte : ℕ → ℕ
  pub shift : ℕ → ℕ

-- by how much a lookup shifts: the Rust's not at all, so that the second bit is the first; the strict one by the top five bits of the table's first word
unfoldable pub shift_of : Lookup → ℕ → ℕ
shift_of Lookup.Rust first = 0
shift_of Lookup.Strict first = bloom_shift first

-- the strict one by all five bits
pub shifts : (shift_of Lookup.Rust 0xFFFFFFFF ≡ 0) × (shift_of Lookup.Strict 0x28000000 ≡ 5) × (shift_of Lookup.Strict 0xFFFFFFFF ≡ 31)
unfolding shift_of bloom_shift
shifts = (refl, refl, refl)

-- the Rust's manner: bytes count 0 to 255, and nothing is shifted
abbrev pub rust : Manner
rust = record { byte = plain; shift = shift_of Lookup.Rust }

-- the manner that the code names
abbrev pub manner_of : code.Manner → Manner
manner_of m = record { byte = rule_of m.form; shift = shift_of m.lookup }

-- with bloom words, two bits of word (hash / 32) modulo their number have to be set: (hash modulo 32), and (hash shifted) modulo 32
unfoldable pub bloom_passes : (ℕ → ℕ) → List ℕ → Table → ℕ → Bool
bloom_passes shift file t hash =
    pick (eqb t.blooms 0) true
    (bit_set (word_at file (t.start + 8 + 4 * (hash / 32 % t.blooms))) (hash % 32)
    && bit_set (word_at file (t.start + 8 + 4 * (hash / 32 % t.blooms))) (hash / 2 ^ shift (word_at file t.start) % 32))

unfoldable pub bucket_word : List ℕ → Table → ℕ → ℕ
bucket_word file t bucket = word_at file (t.start + 8 + 4 * t.blooms + 4 * bucket)

-- from the bucket's word up to the next bucket's word, or to the item count for the last bucket
unfoldable pub run_of : List ℕ → Table → ℕ → Run
run_of file t bucket = record {
  first = bucket_word file t bucket;
  last = pick (ltb (bucket + 1) t.buckets) (bucket_word file t (bucket + 1)) t.count;
}

-- equal hash, and its chain names the key
unfoldable pub item_matches : Manner → List ℕ → Table → List ℕ → ℕ → Bool
item_matches manner file t key index =
    pick (eqb (item_at file t index).hash (hash_by manner.byte key)) (names (key_of file t t.count index) key) false

-- the first of so many indices, from `at` on, that passes a test; an index past the last item ends the search
unfoldable pub first_from : (ℕ → Bool) → ℕ → ℕ → ℕ → Option ℕ
first_from test count zero at = None
first_from test count (suc more) at =
    pick (leb count at) None (pick (test at) (Some at) (first_from test count more (at + 1)))

unfoldable pub first_of : Manner → List ℕ → Table → List ℕ → Run → Option ℕ
first_of manner file t key run =
    first_from (item_matches manner file t key) t.count (run.last - run.first) run.first

-- no buckets or no items: none; the bloom test; then the run of bucket (hash modulo their number)
unfoldable pub find_item : Manner → List ℕ → Table → List ℕ → Option ℕ
find_item manner file t key =
    pick (eqb t.buckets 0) None
    (pick (eqb t.count 0) None
    (pick (bloom_passes manner.shift file t (hash_by manner.byte key))
    (first_of manner file t key (run_of file t (hash_by manner.byte key % t.buckets)))
    None))
