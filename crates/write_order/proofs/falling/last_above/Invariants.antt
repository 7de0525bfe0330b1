-- `write_order::falling::last_above` meets its contract. The invariant: from p on the rest of the chain stands, and what is put behind `last` there is put so in all of it.
use mathlib.Core.Path.{◌≡◌}
use mathlib.Core.Bool.{Bool, true, false}
use mathlib.Core.List.{List}
use Prim.Native.Nat.{ℕ, zero, suc, ◌+◌, ◌≤◌, ◌<◌}
use lib.Dec.{eqb}
use lib.ListN.{length, get_or}
use Rattle.words.specs.Choice.{pick}
use Rattle.key_order.specs.Order.{precedes}
use Rattle.layout.specs.Limits.{most_items}
use Rattle.layout.specs.Item.{no_item}
use Rattle.build_memory.specs.Memory.{links_from, key_of}
use Rattle.write_order.specs.Fall.{last_above}
use Rattle.write_order.specs.Chain.{Chain, links_of}
use Rattle.write_order.proofs.falling.last_above.Given as goal

-- how long the chain from p is, up to a bound
unfoldable pub size : List ℕ → ℕ → ℕ → ℕ
size links zero p = 0
size links (suc most) p = pick (eqb p no_item) 0 (suc (size links most (get_or links p 0)))

pub record Walking (words arena : List ℕ) (head i last p : ℕ) : Type 0 where
  pub known : (last ≡ no_item → ⊥) → last < most_items
  pub rest : List ℕ
  pub chained : Chain (links_of words) p rest
  pub few : length rest ≤ most_items
  pub same : (l : List ℕ) → Chain (links_of words) head l → last_above (key_of words arena) i no_item l ≡ last_above (key_of words arena) i last rest

-- an item is met: it has a link, and the chain goes on behind it if its key comes behind that of i
pub record Met (words arena : List ℕ) (head i last p : ℕ) : Type 0 where
  pub inside : p < most_items
  pub stop : {told : Bool} → told ≡ precedes (key_of words arena i) (key_of words arena p) → told ≡ false → (l : List ℕ) → Chain (links_of words) head l → last ≡ last_above (key_of words arena) i no_item l
  pub on : {told : Bool} → told ≡ precedes (key_of words arena i) (key_of words arena p) → told ≡ true → Walking words arena head i p (get_or words (links_from + p) 0)
  pub less : size (links_of words) most_items (get_or words (links_from + p) 0) < size (links_of words) most_items p

abbrev pub invariant-loop-p : goal.invariant-loop-p
invariant-loop-p l =
    Walking l.words l.arena l.head l.i l.last l.p

abbrev pub decreases-loop-p : goal.decreases-loop-p
decreases-loop-p l = size (links_of l.words) most_items l.p
