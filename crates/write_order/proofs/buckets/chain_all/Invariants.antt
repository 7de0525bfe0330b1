-- `write_order::buckets::chain_all` meets its contract. The invariant: the ranks below p are chained, and the links from p on hold the empty mark.
use Rattle.write_order.specs.Chain.{Chained, EmptyFrom}
use Rattle.write_order.proofs.buckets.chain_all.Given as goal

abbrev pub invariant-loop-p : goal.invariant-loop-p
invariant-loop-p l = Chained l.hashes l.p l.heads l.links × EmptyFrom l.p l.links
