use Rattle.std.proofs.Common.{arith}
use Rattle.gmp_chan.proofs.Opened.{opened}
use Rattle.gmp_chan.proofs.waiters.Waiters.open.Goals as goal

pub invariant_of-result : goal.invariant_of-result
invariant_of-result c =
    let base = c.capacity-base.ensures.value in
    rw (c.in_ok-records.ensures.empty, ← base)
    (opened c.capacity-base.result c.in_ok-queues.queues.next.items c.in_ok-queues.queues.prev.items c.in_ok-chains.chains.next.items c.in_ok-chains.chains.prev.items c.args.bodies c.args.channels
    (omega (arith, base, c.in_ok-records.ensures.capacity)) c.in_ok-queues.ensures.next c.in_ok-queues.ensures.prev c.in_ok-chains.ensures.next c.in_ok-chains.ensures.prev)
