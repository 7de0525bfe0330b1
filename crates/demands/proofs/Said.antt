-- What each reader answers: each contract, as `Contracts.antt` reads it.
use Prim.Native.Nat.{ℕ}
use mathlib.Core.Path.{◌≡◌}
use Rattle.build_memory.specs.Memory.{least_words}
use Rattle.answers.specs.Header.{abi}
use Rattle.demands.specs.Readers.{Abi, MemoryWords}
use Rattle.demands.specs.Said.{EachReaderSays}
use Rattle.demands.proofs.Contracts.{reading_header_is, laying_header_is, judging_is, opening_is, getting_is, getting_table_is, getting_layered_is, listing_is, listing_value_is, listing_child_is, checking_is}

abi_is : (r : ℕ) → Abi r → r ≡ abi
abi_is r (Abi.abi c) = c.meets

memory_words_is : (r : ℕ) → MemoryWords r → r ≡ least_words
memory_words_is r (MemoryWords.memory_words c) = c.meets

pub each_reader_says : EachReaderSays
each_reader_says = record {
  number = abi_is;
  words = memory_words_is;
  headed = reading_header_is;
  lays = laying_header_is;
  judges = judging_is;
  opens = opening_is;
  gets = getting_is;
  tables = getting_table_is;
  layered = getting_layered_is;
  lists = listing_is;
  values = listing_value_is;
  children = listing_child_is;
  checks = checking_is;
}
