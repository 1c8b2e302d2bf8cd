use Rattle.std.proofs.Common.{◌≡◌, ◌+◌, None, get_or, ap, ◌∙◌, arith}
use Rattle.gmp_chan.specs.Kept.{queue_end}
use Rattle.gmp_chan.proofs.First.{queue_none, queue_some}
use Rattle.gmp_chan.proofs.waiters.Store.first_in_queue.Goals as goal

pub returns-clause-some : goal.returns-clause-some
returns-clause-some c =
    let s = c.args.self.now in
    let end : c.capacity.result + c.queue_end.result ≡ s.records.capacity + queue_end c.args.c c.args.direction = omega (arith, c.capacity.ensures.value, c.queue_end.ensures) in
    queue_some s.records.slots s.records.capacity s.queues.next.items s.queues.prev.items s.chains.next.items s.chains.prev.items s.bodies s.channels c.requires c.args.c c.args.direction
    c.if-c-self.false c.copied.result
    (c.copied.ensures ∙ (c.get.ensures ∙ ap (λ k. get_or s.records.slots k None) (c.first-key.ensures ∙ ap (λ k. get_or s.queues.next.items k 0) end)))

pub returns-clause-none : goal.returns-clause-none
returns-clause-none c =
    let s = c.args.self.now in
    let end : c.capacity.result + c.queue_end.result ≡ s.records.capacity + queue_end c.args.c c.args.direction = omega (arith, c.capacity.ensures.value, c.queue_end.ensures) in
    queue_none s.records.slots s.records.capacity s.queues.next.items s.queues.prev.items s.chains.next.items s.chains.prev.items s.bodies s.channels c.requires c.args.c c.args.direction
    c.if-c-self.false c.copied.result
    (c.copied.ensures ∙ (c.get.ensures ∙ ap (λ k. get_or s.records.slots k None) (c.first-key.ensures ∙ ap (λ k. get_or s.queues.next.items k 0) end)))
