use Rattle.std.proofs.Common.{None, Some}
use Rattle.gmp_base.specs.declared.cases.Case.TheVariants as case
use Rattle.gmp_seq.specs.declared.call.Taken.TheVariants as taken
use Rattle.gmp_seq.specs.declared.status.Direction.TheVariants.{Receiving}
use Rattle.gmp_start.specs.Start.{state_of}
use Rattle.gmp_allowed.specs.Tried.{dealt}
use Rattle.gmp_allowed.proofs.Deals.{with_waiters, sends}
use Rattle.gmp_allowed.proofs.Results.{on_ok}
use Rattle.gmp_allowed.proofs.dealing.of_send.Goals as goal

pub returns : goal.returns
returns c =
    let a = c.args in
    let s = state_of a.last.now in
    on_ok c.of_waiters.result
    (λ waiters v.
    with_waiters a.i a.c Receiving None (case.Send (Some a.c) v) s c.deref.result.now a.out.now.items c.add_all.new.out.items c.of_waiters.new.out.items (dealt a.i taken.Failed) (dealt a.i (taken.Sent None)) c.dealt.result c.dealt-2.result
    c.deref.ensures.value c.dealt.ensures c.dealt-2.ensures c.in_ok-add_all.ensures waiters (sends a.i a.c v s)) c.of_waiters.ensures
