use Rattle.std.proofs.Common.{◌≡◌, Some, ap, sym, ◌∙◌}
use Rattle.gmp_base.specs.declared.number.Readiness.{Readiness}
use Rattle.gmp_seq.specs.declared.call.Reply.{Reply}
use Rattle.gmp_seq.specs.declared.status.Waiter.{Waiter}
use Rattle.gmp_allowed.specs.Tried.{dealt, raised, served}
use Rattle.gmp_allowed.proofs.Deals.{served_at}
use Rattle.gmp_allowed.proofs.dealing.of_waiter.Goals as goal

pub returns : goal.returns
returns c = λ rows r at is.
    let a = c.args in
    let n = c.goroutine_at-n.result in
    let h = served_at a.i a.c a.direction a.first rows a.g n a.row.now c.waiter_at.result r at c.goroutine_at-n.ensures c.waiter_at.ensures is in
    let w : Waiter = c.in_ok-w.w in
    let same : w ≡ h.0 = (let e : Some w ≡ Some h.0 = sym c.in_ok-w.was ∙ h.1 in cc) in
    ap (λ (x : Reply). Some x)
    (c.dealt.ensures ∙ ap (dealt a.i) (c.served.ensures ∙ ap (λ (x : Readiness). served a.first x w a.direction) c.raised.ensures)
    ∙ ap (λ (x : Waiter). dealt a.i (served a.first (raised n a.row.now.epoch) x a.direction)) same ∙ sym h.2)
