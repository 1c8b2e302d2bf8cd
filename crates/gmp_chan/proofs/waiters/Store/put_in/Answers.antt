use Rattle.std.proofs.Common.{◌≡◌, ap, ◌∙◌, arith}
use Rattle.gmp_chan.specs.Kept.{queue_end, queue_in}
use Rattle.gmp_chan.specs.Slots.{in_order}
use Rattle.gmp_chan.proofs.Counted.{room_for}
use Rattle.gmp_chan.proofs.Kept.{one_more, put_in}
use Rattle.gmp_chan.proofs.Ordered.{every_of, length-in_order}
use Rattle.gmp_chan.proofs.waiters.Store.put_in.Goals as goal

pub insert_reserved-key-requires : goal.insert_reserved-key-requires
insert_reserved-key-requires c =
    let s = c.args.self.now in
    let kept = c.requires.kept in
    let slots = s.records.slots in
    omega (arith, kept.room, length-in_order slots, room_for s.bodies (in_order slots) c.args.w (every_of _ slots (λ k x at. (kept.placed k x at).known)) c.requires.known kept.few c.requires.few)

pub returns-clause-kept : goal.returns-clause-kept
returns-clause-kept c =
    let s = c.args.self.now in
    let e = c.insert_reserved-key.ensures in
    let w = c.args.w in
    let queue : c.queue_end.result ≡ queue_in w = c.queue_end.ensures ∙ ap (queue_end w.offer.channel) c.direction.ensures in
    let base = c.capacity-base.ensures.value in
    rw (e.capacity, c.link_last.ensures.next, c.link_last.ensures.prev, c.link_last-2.ensures.next, c.link_last-2.ensures.prev)
    (put_in s.records.slots s.records.capacity s.queues.next.items s.queues.prev.items s.chains.next.items s.chains.prev.items s.bodies s.channels c.requires.kept
    c.insert_reserved-key.new.self.slots c.insert_reserved-key.result w (omega (arith, e.key_in_range, e.capacity)) e.was_vacant e.updates.changed e.updates.others c.requires.last
    c.requires.known c.requires.made (omega arith) c.requires.few _ (omega (arith, queue, base)) _ (omega (arith, base)))

pub returns-clause-list : goal.returns-clause-list
returns-clause-list c =
    let s = c.args.self.now in
    let e = c.insert_reserved-key.ensures in
    one_more s.records.slots s.records.capacity s.queues.next.items s.queues.prev.items s.chains.next.items s.chains.prev.items s.bodies s.channels c.requires.kept
    c.insert_reserved-key.new.self.slots c.insert_reserved-key.result c.args.w (omega (arith, e.key_in_range, e.capacity)) e.was_vacant e.updates.changed e.updates.others c.requires.last
