-- What the strict lookup finds, the Rust's finds at the same index, and what passes by it passes by the Rust's: the Rust's asks for the first bit alone.
use Rattle.std.specs.Prelude.{Option, Some, None}
use Prim.Native.Nat.{ℕ, ◌+◌, ◌*◌, ◌/◌, ◌%◌, ◌^◌}
use mathlib.Core.Path.{◌≡◌, refl}
use mathlib.Core.Bool.{Bool, true, false, ◌&&◌}
use mathlib.Core.List.{List}
use native.Mathlib.Omega.{arith}
use lib.Dec.{eqb}
use Rattle.words.specs.Choice.{pick}
use Rattle.words.specs.Field.{word_at}
use Rattle.words.specs.Bits.{bit_set}
use Rattle.key_hash.specs.Hash.{hash_by}
use Rattle.words.proofs.ChoiceLaws.{both}
use Rattle.text.specs.Utf8.{is_utf8}
use Rattle.layout.specs.declared.table.Table.{Table}
use Rattle.read_find.specs.declared.manner.Lookup.{Lookup}
use Rattle.read_find.specs.Find.{shift_of, bloom_passes, item_matches, first_of, find_item}
use Rattle.check_rules.specs.Rules.{index_of}
use Rattle.check_table.specs.Sound.{SoundIn, SoundTable}
use Rattle.check_table.specs.Strict.{manner_by, StrictFindsLess, StrictPassesLess}
use Rattle.check_table.proofs.SoundLaws.{passes_exactly_the_sound}

-- the first bit alone
first_twice : (w h : ℕ) (second : Bool) → (bit_set w (h % 32) && second) ≡ true → (bit_set w (h % 32) && bit_set w (h / 2 ^ 0 % 32)) ≡ true
first_twice w h second e =
    let one : bit_set w (h % 32) ≡ true = (both (bit_set w (h % 32)) second e).0 in
    let none : h / 2 ^ 0 ≡ h = omega arith in
    rw (none, one)

-- ---- tests that the second bit cannot turn round

bits_by : (none strict loose : Bool) → (strict ≡ true → loose ≡ true) → pick none true strict ≡ true → pick none true loose ≡ true
unfolding pick
bits_by true strict loose up e = refl
bits_by false strict loose up e = up e

find_by : (a b strict loose : Bool) (found : Option ℕ) (i : ℕ) → (strict ≡ true → loose ≡ true)
    → pick a None (pick b None (pick strict found None)) ≡ Some i
    → pick a None (pick b None (pick loose found None)) ≡ Some i
unfolding pick
find_by true b strict loose found i up e = e
find_by false true strict loose found i up e = e
find_by false false true loose found i up e = rw (up refl) e
find_by false false false loose found i up e = absurd (let z : ◌≡◌ {A = ℕ} 0 1 = cc in omega arith)

index_by : (text : Bool) (strict loose : Option ℕ) (i : ℕ) → (strict ≡ Some i → loose ≡ Some i) → pick text strict None ≡ Some i → pick text loose None ≡ Some i
unfolding pick
index_by true strict loose i up e = up e
index_by false strict loose i up e = e

-- ---- the lookups

bloom_less : (file : List ℕ) (t : Table) (hash : ℕ) → bloom_passes (shift_of Lookup.Strict) file t hash ≡ true → bloom_passes (shift_of Lookup.Rust) file t hash ≡ true
unfolding bloom_passes shift_of
bloom_less file t hash e = bits_by (eqb t.blooms 0) _ _ (first_twice (word_at file (t.start + 8 + 4 * (hash / 32 % t.blooms))) hash _) e

pub find_less : StrictFindsLess
unfolding find_item first_of item_matches
find_less rule file t key i e = find_by (eqb t.buckets 0) (eqb t.count 0) _ _ _ i (bloom_less file t (hash_by rule key)) e

module _ (rule : ℕ → ℕ) (file : List ℕ) (t : Table) where
  index_less : (key : List ℕ) (i : ℕ) → index_of (manner_by rule Lookup.Strict) file t key ≡ Some i → index_of (manner_by rule Lookup.Rust) file t key ≡ Some i
  unfolding index_of
  index_less key i e = index_by (is_utf8 key) _ _ i (find_less rule file t key i) e

  sound_less : SoundIn (manner_by rule Lookup.Strict) file t → SoundIn (manner_by rule Lookup.Rust) file t
  sound_less s = record {
    keys = λ i l. let (key, joins, finds) = s.keys i l in (key, joins, index_less key i finds);
    values = s.values;
    parents = s.parents;
    lists = s.lists;
    once = s.once;
  }

pub passes_less : StrictPassesLess
unfolding SoundTable
passes_less rule file start end e =
    let (t, opens, sound) = (passes_exactly_the_sound (manner_by rule Lookup.Strict) file start end).0 e in
    (passes_exactly_the_sound (manner_by rule Lookup.Rust) file start end).1 (t, opens, sound_less rule file t sound)
