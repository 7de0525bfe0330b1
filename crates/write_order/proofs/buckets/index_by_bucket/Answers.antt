-- `write_order::buckets::index_by_bucket` meets its contract: a fresh head for each bucket, the chains of the runs built, and taken apart again.
use mathlib.Core.Path.{◌≡◌, ap, ◌∙◌}
use mathlib.Core.List.{List}
use Prim.Native.Nat.{ℕ}
use lib.ListN.{length}
use Rattle.words.specs.Store.{put_at}
use Rattle.layout.specs.Limits.{most_items}
use Rattle.image.specs.Index.{run, by_bucket, bucket_start}
use Rattle.write_order.specs.Fall.{joined}
use Rattle.write_order.specs.Chain.{Indexed, starts}
use Rattle.write_order.proofs.ChainLaws.{empty_fresh, empty_same, run_chains, joined_runs_below, starts_of}
use Rattle.write_order.proofs.buckets.index_by_bucket.Goals as goal

module _ (hashes : List ℕ) where
  abbrev runs : ℕ → List ℕ
  runs b = run hashes b (length hashes)

  -- so what the chains gave is bucket by bucket
  runs-indexed : {order order' firsts firsts' : List ℕ} → Indexed runs (length hashes) order order' firsts firsts'
      → (order' ≡ put_at order 0 (by_bucket hashes)) × (firsts' ≡ put_at firsts 0 (starts hashes))
  unfolding by_bucket bucket_start
  runs-indexed x = (
    rw (joined_runs_below hashes (length hashes)) at x.order_is,
    rw (starts_of hashes (λ (b : ℕ). length (joined runs b)) (λ b. ap length (joined_runs_below hashes b))) at x.firsts_is,
  )

pub chain_all-requires-clause-empty : goal.chain_all-requires-clause-empty
chain_all-requires-clause-empty c = (empty_fresh most_items, c.requires.2)

pub index_all-requires-clause-has_chains : goal.index_all-requires-clause-has_chains
index_all-requires-clause-has_chains c =
    record { lists = runs c.args.hashes.now; chains = run_chains _ _ _ c.chain_all.ensures.chained c.chain_all.ensures.empty_from }

pub returns : goal.returns
returns c =
    let x = runs-indexed c.args.hashes.now (c.index_all.ensures.by_index (runs c.args.hashes.now) (run_chains _ _ _ c.chain_all.ensures.chained c.chain_all.ensures.empty_from)) in
    record {
      order_after = x.0;
      firsts_after = x.1;
      links_unchanged = empty_same _ _ (c.index_all.auto.links ∙ c.chain_all.auto.links) c.index_all.ensures.empty c.requires.2;
    }
