-- What a reader of a laid table is told, as document 01 has it under 'Lookup': of each item by what it holds, of each key that no item
-- has, and the same in every nested table.
use Rattle.std.specs.Prelude.{ℕ, zero, suc, ◌-◌, ◌≡◌, true, false, List, Result, Ok}
use Rattle.layout.specs.declared.refusal.Refusal.{Refusal}
use Rattle.layout.specs.declared.pointer.Pointer.{Pointer}
use Rattle.words.specs.Store.{part}
use Rattle.text.specs.Utf8.{is_utf8}
use Rattle.layout.specs.Table.{open_table}
use Rattle.read_chain.specs.Chain.{Joined}
use Rattle.read.specs.Lookup.{lookup_value, lookup_table}
use Rattle.read_listing.specs.Listing.{key_at}
use Rattle.read.specs.Answer.{looked_number}
use Rattle.read_find.specs.Find.{Manner}
use Rattle.model.specs.Table.{Content, State, Has}
use Rattle.image.specs.Index.{laid_index}
use Rattle.laid.specs.Back.{Lay, end_of, table_opened}

-- a lookup answers a stretch of the file, and just these bytes stand there: a value view is that stretch and no copy
pub record Views (file : List ℕ) (looked : Result Pointer Refusal) (value : List ℕ) : Type 0 where
  pub start : ℕ
  pub end : ℕ
  pub place : looked ≡ Ok (record { start = start; end = end })
  pub view : part file start (end - start) ≡ value

-- both lookups of a key, as a value and as a table, give a number
pub record Both (manner : Manner) (file : List ℕ) (start end : ℕ) (key : List ℕ) (n : ℕ) : Type 0 where
  pub value : looked_number (lookup_value manner file start end key) ≡ n
  pub table : looked_number (lookup_table manner file start end key) ≡ n

-- table t at `at`
pub record TableBack (lay : Lay) (file : List ℕ) (state : State) (t at : ℕ) : Type 0 where
  -- it opens, with as many items as the table has
  pub opens : open_table file at (end_of lay.filter state t at) ≡ Ok (table_opened lay.filter state t at)
  -- each item's key is listed at its index
  pub lists : (i : ℕ) → Has (state t).members i → key_at file at (end_of lay.filter state t at) (laid_index lay.manner.byte (state t) i) ≡ Joined.joined ((state t).key i)
  -- a value's key answers a view of its bytes; as a table 13, another kind than asked
  pub values : (i : ℕ) (value : List ℕ) → Has (state t).members i → (state t).content i ≡ Content.bytes value
      → Views file (lookup_value lay.manner file at (end_of lay.filter state t at) ((state t).key i)) value
  pub no_table : (i : ℕ) (value : List ℕ) → Has (state t).members i → (state t).content i ≡ Content.bytes value
      → looked_number (lookup_table lay.manner file at (end_of lay.filter state t at) ((state t).key i)) ≡ 13
  -- a nested table's key answers 13 as a value
  pub no_value : (i u : ℕ) → Has (state t).members i → (state t).content i ≡ Content.nested u
      → looked_number (lookup_value lay.manner file at (end_of lay.filter state t at) ((state t).key i)) ≡ 13
  -- a container's key answers 13 as a value and as a table
  pub containers : (i : ℕ) → Has (state t).members i → (state t).content i ≡ Content.container → Both lay.manner file at (end_of lay.filter state t at) ((state t).key i) 13
  -- a key that no item has answers 12, key not found
  pub absent : (key : List ℕ) → is_utf8 key ≡ true → ((i : ℕ) → Has (state t).members i → (state t).key i ≡ key → ⊥)
      → Both lay.manner file at (end_of lay.filter state t at) key 12
  -- a key that is not UTF-8 answers 8
  pub not_text : (key : List ℕ) → is_utf8 key ≡ false → Both lay.manner file at (end_of lay.filter state t at) key 8

-- table t at `at`, and every table nested in it: its key answers, as a table, the pointer of its table chunk, and the same holds there
unfoldable pub AllBack : Lay → List ℕ → State → ℕ → ℕ → ℕ → Type 0
AllBack lay file state zero t at = ⊥
AllBack lay file state (suc d) t at =
    TableBack lay file state t at
    × ((i u : ℕ) → Has (state t).members i → (state t).content i ≡ Content.nested u
    → (from : ℕ) × (lookup_table lay.manner file at (end_of lay.filter state t at) ((state t).key i) ≡ Ok (record { start = from; end = end_of lay.filter state u from }))
    × AllBack lay file state d u from)
