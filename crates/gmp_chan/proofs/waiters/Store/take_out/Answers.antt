use Rattle.std.proofs.Common.{get_or, None}
use Rattle.gmp_chan.proofs.Kept.{some_of, taken_out}
use Rattle.gmp_chan.proofs.waiters.Store.take_out.Goals as goal

pub returns-clause-kept : goal.returns-clause-kept
returns-clause-kept c =
    let s = c.args.self.now in
    let there = some_of (get_or s.records.slots c.args.key None) c.requires.there in
    rw (c.remove.ensures.slots, c.remove.ensures.capacity, c.unlink.ensures.next, c.unlink.ensures.prev, c.unlink-2.ensures.next, c.unlink-2.ensures.prev)
    (taken_out s.records.slots s.records.capacity s.queues.next.items s.queues.prev.items s.chains.next.items s.chains.prev.items s.bodies s.channels c.requires.kept c.args.key there.0 there.1)
