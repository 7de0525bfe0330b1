-- Laws of the tables that the words mean: a table's members are its items in the words, its keys those in the arena.
use Prim.Native.Nat.{ℕ, zero, suc, ◌≤◌, ◌<◌}
use native.Mathlib.Omega.{arith}
use mathlib.Core.Path.{◌≡◌, refl, sym, ap, ◌∙◌}
use mathlib.Core.Bool.{Bool}
use mathlib.Core.List.{List, [], ◌∷◌, ◌++◌}
use lib.Dec.{eqb}
use lib.ListN.{length}
use Rattle.words.specs.Choice.{pick}
use Rattle.key_hash.specs.Hash.{hash_of}
use Rattle.layout.specs.Limits.{most_items}
use Rattle.model.specs.Table.{Entry, Has, times, entry_at, members_below, rows_of}
use Rattle.build_memory.specs.Memory.{item_total, item_table, item_hash, key_of}
use Rattle.build_memory.specs.Meaning.{entry_of, listed, meaning}
use Rattle.build_memory.proofs.MeaningLaws.{length-listed, listed_at}
use Rattle.write_order.specs.Key.{Known}
use Rattle.write_numbers.specs.Roster.{state_of}
use Rattle.write_numbers.specs.Fill.{of_table, all_of_table, Fit, Judged}
use Rattle.write_numbers.proofs.OfTableLaws.{length-of_table, of_table_below, of_table_once, of_table_here, of_table-table}

module _ (ws ar : List ℕ) where
  entry_at_lem : (m i : ℕ) → i < m → entry_at (listed (entry_of ws ar) m) i ≡ entry_of ws ar i
  unfolding entry_at
  entry_at_lem m i h = listed_at (entry_of ws ar) _ m i h

  entry-table : (m i : ℕ) → i < m → (entry_at (listed (entry_of ws ar) m) i).table ≡ item_table ws i
  unfolding entry_of
  entry-table m i h = ap (λ (e : Entry). e.table) (entry_at_lem m i h)

  entry_key : (m i : ℕ) → i < m → (entry_at (listed (entry_of ws ar) m) i).key ≡ key_of ws ar i
  unfolding entry_of
  entry_key m i h = ap (λ (e : Entry). e.key) (entry_at_lem m i h)

  members_of_table : (m t n : ℕ) → n ≤ m → members_below (listed (entry_of ws ar) m) t n ≡ of_table ws t n
  unfolding members_below of_table
  members_of_table m t zero h = refl
  members_of_table m t (suc n) h =
      let test : eqb (entry_at (listed (entry_of ws ar) m) n).table t ≡ eqb (item_table ws n) t = ap (λ (x : ℕ). eqb x t) (entry-table m n (omega arith)) in
      ap (λ (q : Bool). pick q (members_below (listed (entry_of ws ar) m) t n ++ (n ∷ [])) (members_below (listed (entry_of ws ar) m) t n)) test
      ∙ ap (λ (l : List ℕ). pick (eqb (item_table ws n) t) (l ++ (n ∷ [])) l) (members_of_table m t n (omega arith))

  pub state_members : (t : ℕ) → (state_of ws ar t).members ≡ all_of_table ws t
  unfolding state_of rows_of meaning all_of_table
  state_members t =
      ap (members_below (listed (entry_of ws ar) (item_total ws)) t) (length-listed (entry_of ws ar) (item_total ws))
      ∙ members_of_table (item_total ws) t (item_total ws) (omega arith)

  pub state_key : (t i : ℕ) → i < item_total ws → (state_of ws ar t).key i ≡ key_of ws ar i
  unfolding state_of rows_of meaning
  state_key t i h = entry_key (item_total ws) i h

  pub state_below : (t i : ℕ) → Has (state_of ws ar t).members i → i < item_total ws
  unfolding all_of_table
  state_below t i h = of_table_below ws i t (item_total ws) (rw (state_members t) at h)

  pub state_same : (t i : ℕ) → Has (state_of ws ar t).members i → (state_of ws ar t).key i ≡ key_of ws ar i
  state_same t i h = state_key t i (state_below t i h)

  pub state_hash : (t i : ℕ) → Judged ws ar → Has (state_of ws ar t).members i → item_hash ws i ≡ hash_of ((state_of ws ar t).key i)
  state_hash t i judged h = judged.hash i (state_below t i h) ∙ ap hash_of (sym (state_same t i h))

  pub state_once : (t x : ℕ) → times x (state_of ws ar t).members ≤ 1
  unfolding all_of_table
  state_once t x = rw (state_members t) (of_table_once ws x t (item_total ws))

  pub state_table : (t i : ℕ) → Has (state_of ws ar t).members i → item_table ws i ≡ t
  unfolding all_of_table
  state_table t i h = of_table-table ws i t (item_total ws) (rw (state_members t) at h)

  pub state_has : (t i : ℕ) → i < item_total ws → item_table ws i ≡ t → Has (state_of ws ar t).members i
  unfolding all_of_table
  state_has t i l e = let one = of_table_here ws i t (item_total ws) l e in rw (state_members t) (omega arith)

-- the words have room for them
pub all_of_table_known : (ws : List ℕ) (t : ℕ) → Fit ws → Known ws (all_of_table ws t)
unfolding Known all_of_table
all_of_table_known ws t fit = (fit.long, λ i h. omega (arith, of_table_below ws i t (item_total ws) h, fit.few))

pub all_of_table_few : (ws : List ℕ) (t : ℕ) → Fit ws → length (all_of_table ws t) ≤ most_items
unfolding all_of_table
all_of_table_few ws t fit = omega (arith, length-of_table ws t (item_total ws), fit.few)
