use Rattle.std.proofs.Common.{ap, ◌∙◌}
use Rattle.gmp_seq.specs.Waits.{first_on, is_on}
use Rattle.gmp_chan.specs.Contents.{WaiterContents}
use Rattle.gmp_chan.proofs.First.{first_result}
use Rattle.gmp_chan.proofs.waiters.Waiters.first_on.Goals as goal

pub returns : goal.returns
returns c =
    let kept = c.self.invariant in
    let e = c.first_in_queue.ensures in
    first_result c.self.inside.store.records.slots kept.apart (λ k x at. (kept.placed k x at).case) (is_on c.args.c c.args.direction) c.first_in_queue.result e.some e.none
    ∙ ap (λ (v : WaiterContents). first_on v.list c.args.c c.args.direction) c.self.view_is
