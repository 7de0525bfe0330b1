-- What the contracts of the readers tell of an answer that the definitions give.
use Rattle.std.specs.Prelude.{Result, Ok, Err}
use Rattle.layout.specs.declared.refusal.Refusal.{Refusal}
use Rattle.layout.specs.declared.pointer.Pointer.{Pointer}
use Prim.Native.Nat.{ℕ, ◌-◌, ◌≤◌}
use mathlib.Core.Path.{◌≡◌, refl, sym, ap, ◌∙◌}
use mathlib.Core.List.{List}
use native.Mathlib.Omega.{arith}
use Rattle.key_hash.specs.Hash.{rule_of}
use Rattle.words.specs.Store.{part}
use Rattle.layout.specs.Limits.{most_filter}
use Rattle.layout.proofs.RefusalLaws.{refused_some}
use Rattle.read.specs.Lookup.{lookup_value, lookup_table}
use Rattle.read.specs.Answer.{looked_number, looked_pointer}
use Rattle.laid.specs.Back.{Lay}
use Rattle.laid.specs.Told as laid
use Rattle.laid.proofs.LayLaws.{lay_of}
use Rattle.answers.specs.declared.reading.GvdbPlace.{GvdbPlace}
use Rattle.answers.specs.Manner.{form_of, lookup_of}
use Rattle.answers.specs.Reading.{looked_answer}
use Rattle.demands.specs.Readers.{read_by, Getting, GettingTable}
use Rattle.demands.specs.Demand2.{Both}
use Rattle.demands.proofs.Contracts.{getting_is, getting_table_is}

-- the manner that a number names, of tables with so many filter words
abbrev pub lay_by : (manner filter : ℕ) → filter ≤ most_filter → Lay
lay_by manner filter few = lay_of (rule_of (form_of manner)) (lookup_of manner) filter (omega (arith, few))

-- a lookup's answer with 0 has a pointer
pointer_of : (l : Result Pointer Refusal) → (looked_answer l).number ≡ 0 → l ≡ Ok (record { start = (looked_answer l).start; end = (looked_answer l).end })
unfolding looked_answer looked_number looked_pointer
pointer_of (Ok p) e = refl
pointer_of (Err why) e = absurd (refused_some why e)

module _ (file : List ℕ) (start end : ℕ) (key : List ℕ) (manner : ℕ) where
  -- a number
  pub value-told : (n : ℕ) → looked_number (lookup_value (read_by manner) file start end key) ≡ n → (r : GvdbPlace) → Getting file start end key manner r → r.number ≡ n
  unfolding looked_answer
  value-told n is r g = ap (λ (x : GvdbPlace). x.number) (getting_is file start end key manner r g) ∙ is

  pub table-told : (n : ℕ) → looked_number (lookup_table (read_by manner) file start end key) ≡ n → (r : GvdbPlace) → GettingTable file start end key manner r → r.number ≡ n
  unfolding looked_answer
  table-told n is r g = ap (λ (x : GvdbPlace). x.number) (getting_table_is file start end key manner r g) ∙ is

  pub both_told : (n : ℕ) → laid.Both (read_by manner) file start end key n → Both manner file start end key n
  both_told n both = record { value = value-told n both.value; table = table-told n both.table }

  -- a value's bytes
  pub bytes-told : (value : List ℕ) → laid.Views file (lookup_value (read_by manner) file start end key) value
      → (r : GvdbPlace) → Getting file start end key manner r → (r.number ≡ 0) × (part file r.start (r.end - r.start) ≡ value)
  unfolding looked_answer looked_number looked_pointer
  bytes-told value views r g =
      let is = getting_is file start end key manner r g ∙ ap looked_answer views.place in
      (ap (λ (x : GvdbPlace). x.number) is, ap (λ (x : GvdbPlace). part file x.start (x.end - x.start)) is ∙ views.view)

  -- a nested table's pointer, and back
  pub pointer_told : (from to : ℕ) → lookup_table (read_by manner) file start end key ≡ Ok (record { start = from; end = to }) → (r : GvdbPlace) → GettingTable file start end key manner r
      → (r.number ≡ 0) × (r.start ≡ from) × (r.end ≡ to)
  unfolding looked_answer looked_number looked_pointer
  pointer_told from to at r g =
      let is = getting_table_is file start end key manner r g ∙ ap looked_answer at in
      (ap (λ (x : GvdbPlace). x.number) is, ap (λ (x : GvdbPlace). x.start) is, ap (λ (x : GvdbPlace). x.end) is)

  pub told_pointer : (r : GvdbPlace) → GettingTable file start end key manner r → r.number ≡ 0 → lookup_table (read_by manner) file start end key ≡ Ok (record { start = r.start; end = r.end })
  told_pointer r g e =
      let is = getting_table_is file start end key manner r g in
      rw is (pointer_of (lookup_table (read_by manner) file start end key) (ap (λ (x : GvdbPlace). x.number) (sym is) ∙ e))
