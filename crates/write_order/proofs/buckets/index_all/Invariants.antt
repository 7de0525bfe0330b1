-- `write_order::buckets::index_all` meets its contract. The invariant, for all lists that are chained: those before b are in `order` and their links are
-- cleared, and the chains of the others stand.
use mathlib.Core.Path.{◌≡◌}
use mathlib.Core.List.{List}
use Prim.Native.Nat.{ℕ, ◌≤◌, ◌<◌}
use lib.ListN.{length, get_or}
use Rattle.words.specs.Store.{put_at}
use Rattle.model.specs.Table.{times}
use Rattle.layout.specs.Item.{no_item}
use Rattle.build_memory.specs.Meaning.{listed}
use Rattle.write_order.specs.Fall.{joined}
use Rattle.write_order.specs.Chain.{Chain, Chains}
use Rattle.write_order.proofs.buckets.index_all.Given as goal

-- where each list starts
abbrev pub starting : (ℕ → List ℕ) → ℕ → ℕ
starting lists = λ (d : ℕ). length (joined lists d)

pub record Buckets (lists : ℕ → List ℕ) (n : ℕ) (heads order₀ firsts₀ links order firsts : List ℕ) (b end : ℕ) : Type 0 where
  pub end_is : end ≡ length (joined lists b)
  pub order_is : order ≡ put_at order₀ 0 (joined lists b)
  pub firsts_is : firsts ≡ put_at firsts₀ 0 (listed (starting lists) b)
  pub later : (d : ℕ) → b ≤ d → d < n → Chain links (get_or heads d 0) (lists d)
  pub clear : (x : ℕ) → x < length links → ((d : ℕ) → b ≤ d → d < n → times x (lists d) ≡ 0) → get_or links x 0 ≡ no_item

abbrev pub invariant-loop-b : goal.invariant-loop-b
invariant-loop-b l =
    (lists : ℕ → List ℕ) → Chains lists l.n l.heads l.initial.links
    → Buckets lists l.n l.heads l.initial.order l.initial.firsts l.links l.order l.firsts l.b l.end
