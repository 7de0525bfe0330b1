-- While the end of the prefix is not that of the key, the next one lies further on.
use Rattle.std.proofs.Common.{◌<◌, ◌≤◌, length, arith}
use Rattle.key_order.specs.Prefix.{next_end}
use Rattle.key_order.proofs.PrefixLaws.{next_rises}
use Rattle.worked.proofs.small.walk.Goals as goal

pub loop-smaller : goal.loop-smaller
loop-smaller g c =
    let key = c.args.key.now in
    let before : c.loop.end ≤ length key = c.loop.invariant in
    let inside : c.loop.end < length key = omega arith in
    let rises : c.loop.end < next_end c.args.separator key c.loop.end = next_rises c.args.separator key c.loop.end before inside in
    omega (arith, c.next_end-end.ensures.value)
