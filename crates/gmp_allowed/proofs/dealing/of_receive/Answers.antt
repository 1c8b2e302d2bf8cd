use Rattle.std.proofs.Common.{◌≡◌, ℕ, List, false, true, map, None, Some, ap, ◌∙◌, rules, slice_get}
use Rattle.std.specs.Option.{unwrap_or}
use Rattle.gmp_base.specs.declared.cases.Case.TheVariants as case
use Rattle.gmp_seq.specs.declared.call.Taken.TheVariants as taken
use Rattle.gmp_seq.specs.declared.status.Direction.TheVariants.{Sending}
use Rattle.gmp_seq.specs.Channels.{items_at}
use Rattle.gmp_start.specs.declared.start.StartChannel.{StartChannel}
use Rattle.gmp_start.specs.Start.{channel_of, state_of}
use Rattle.gmp_allowed.specs.Tried.{dealt}
use Rattle.gmp_allowed.proofs.Deals.{with_waiters, receives}
use Rattle.gmp_allowed.proofs.Results.{on_ok}
use Rattle.gmp_allowed.proofs.dealing.of_receive.Goals as goal

pub returns : goal.returns
returns c =
    let a = c.args in
    let s = state_of a.last.now in
    let first = c.first_item-first.result in
    let first_is : first ≡ slice_get (items_at s.channels a.c) 0 = c.first_item-first.ensures ∙ ap (λ (l : List StartChannel). slice_get (items_at (map channel_of l) a.c) 0) c.deref.ensures.value in
    let value : c.unwrap_or.result ≡ unwrap_or first 0 = search rules in
    on_ok c.of_waiters.result
    (λ waiters.
    with_waiters a.i a.c Sending first (case.Recv (Some a.c)) s c.deref-2.result.now a.out.now.items c.add_all.new.out.items c.of_waiters.new.out.items (dealt a.i (taken.Got 0 false None))
    (dealt a.i (taken.Got (unwrap_or first 0) true None)) c.dealt.result c.dealt-2.result
    c.deref-2.ensures.value c.dealt.ensures (c.dealt-2.ensures ∙ ap (λ (n : ℕ). dealt a.i (taken.Got n true None)) value) c.in_ok-add_all.ensures waiters (λ r. receives a.i a.c first s r first_is)) c.of_waiters.ensures
