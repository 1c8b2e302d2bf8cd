use Rattle.std.proofs.Common.{sym, ap, ◌∙◌}
use Rattle.std.specs.List.{find}
use Rattle.gmp_chan.specs.Order.{is_at}
use Rattle.gmp_chan.specs.Slots.{in_order}
use Rattle.gmp_chan.specs.Contents.{WaiterContents}
use Rattle.gmp_chan.proofs.Finding.{find_first}
use Rattle.gmp_chan.proofs.First.{earlier_first}
use Rattle.gmp_chan.proofs.waiters.Waiters.first_at.Goals as goal

pub returns : goal.returns
returns c =
    let kept = c.self.invariant in
    let s = c.first_in_queue-sender.ensures in
    let r = c.first_in_queue-receiver.ensures in
    let slots = c.self.inside.store.records.slots in
    c.earlier_of.ensures
    ∙ (earlier_first slots kept.apart (λ k x at. (kept.placed k x at).case) c.args.c c.first_in_queue-sender.result c.first_in_queue-receiver.result s.some s.none r.some r.none
    ∙ (sym (find_first (is_at c.args.c) (in_order slots)) ∙ ap (λ (v : WaiterContents). find (is_at c.args.c) v.list) c.self.view_is))
