-- Laws of tables by their keys alone, and of items that the words have room for.
use mathlib.Core.Path.{◌≡◌, refl, sym, ap, ◌∙◌}
use mathlib.Core.List.{List}
use Prim.Native.Nat.{ℕ, ◌+◌, ◌≤◌, ◌<◌}
use lib.ListN.{length, take, drop, get_or, take-append-drop}
use Rattle.layout.specs.Limits.{most_items}
use Rattle.model.specs.Table.{Rows, times, Has}
use Rattle.build_memory.specs.Memory.{least_words, key_of}
use Rattle.image.specs.Index.{key_order}
use Rattle.image.proofs.TimesLaws.{times-append, times_some}
use Rattle.image.proofs.OrderLaws.{order_same, length_order}
use Rattle.write_order.specs.Key.{keyed, Known}

-- ---- tables by their keys

module _ (words arena : List ℕ) where
  pub length-keyed : (l : List ℕ) → length (key_order (keyed words arena l)) ≡ length l
  unfolding keyed
  length-keyed l = length_order (keyed words arena l)

  -- the order of a table whose keys are those in the arena
  pub order_keyed : (table : Rows) → ((i : ℕ) → Has table.members i → table.key i ≡ key_of words arena i)
      → key_order (keyed words arena table.members) ≡ key_order table
  unfolding keyed
  order_keyed table same = sym (order_same table (keyed words arena table.members) refl same)

-- ---- items that the words have room for

pub times_halves : (x mid : ℕ) (l : List ℕ) → times x l ≡ times x (take mid l) + times x (drop mid l)
times_halves x mid l = ap (times x) (sym (take-append-drop mid l)) ∙ times-append x (take mid l) (drop mid l)

module _ (words : List ℕ) where
  pub known_at : (l : List ℕ) → Known words l → (k : ℕ) → k < length l → (least_words ≤ length words) × (get_or l k 0 < most_items)
  unfolding Known
  known_at l known k h = (known.0, known.1 (get_or l k 0) (times_some (get_or l k 0) l k h refl))
