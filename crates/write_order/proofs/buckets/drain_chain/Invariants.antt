-- `write_order::buckets::drain_chain` meets its contract. The invariant: the chain is split into the ranks passed, which are in `order` and whose
-- links are cleared, and the rest, which is still chained.
use mathlib.Core.Path.{◌≡◌}
use mathlib.Core.List.{List, ◌++◌}
use Prim.Native.Nat.{ℕ, ◌+◌, ◌-◌, ◌≤◌, ◌<◌}
use lib.ListN.{length, get_or, set}
use Rattle.words.specs.Store.{put_at}
use Rattle.model.specs.Table.{times}
use Rattle.layout.specs.Item.{no_item}
use Rattle.write_order.specs.Chain.{Chain, cleared}
use Rattle.write_order.proofs.buckets.drain_chain.Given as goal

pub record Draining (links₀ order₀ : List ℕ) (head at : ℕ) (links order : List ℕ) (p end : ℕ) : Type 0 where
  pub done : List ℕ
  pub rest : List ℕ
  pub whole : Chain links₀ head (done ++ rest)
  pub chained : Chain links p rest
  pub once : (x : ℕ) → times x rest ≤ 1
  pub end_is : end ≡ at + length done
  pub order_is : order ≡ put_at order₀ at done
  pub links_is : links ≡ cleared links₀ done
  pub fits : end + length rest ≤ length order₀
  pub links_long : length links ≡ length links₀
  pub order-long : length order ≡ length order₀

-- what a turn needs, and what it leaves
pub record Turn (links₀ order₀ : List ℕ) (head at : ℕ) (links order : List ℕ) (p end : ℕ) : Type 0 where
  pub linked : p < length links
  pub room : end < length order
  pub next : Draining links₀ order₀ head at (set links p no_item) (set order end p) (get_or links p 0) (end + 1)

abbrev pub invariant-loop-p : goal.invariant-loop-p
invariant-loop-p l =
    Draining l.initial.links l.initial.order l.head l.at l.links l.order l.p l.end

abbrev pub decreases-loop-p : goal.decreases-loop-p
decreases-loop-p l = length l.order - l.end
