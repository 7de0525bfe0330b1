-- `write_order::buckets::chain_all` meets its contract. The invariant: the ranks below p are chained, and the links from p on hold the empty mark.
use Prim.Native.Nat.{◌<◌}
use native.Mathlib.Omega.{arith}
use lib.ListN.{length}
use Rattle.write_order.proofs.ChainLaws.{chained_none, chained_more, empty_from, empty_later}
use Rattle.write_order.proofs.buckets.chain_all.Goals as goal

pub loop-p-init : goal.loop-p-init
loop-p-init c = (chained_none _ _ _ c.requires.hashes_len_bound.1 c.requires.empty.0, empty_from _ c.requires.empty.1)

pub loop-p-preserved : goal.loop-p-preserved
loop-p-preserved c =
    let inside : c.bucket_of-b.result < length c.loop-p.heads = omega arith in (
      chained_more _ _ _ _ c.bucket_of-b.ensures.0 inside (omega arith) (omega arith) c.loop-p.invariant.0,
      empty_later _ _ _ c.loop-p.invariant.1,
    )
