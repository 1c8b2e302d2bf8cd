use Rattle.std.proofs.Common.{◌≡◌, Some, length, refl}
use Rattle.std.proofs.lemmas.Option.{slice_get_read}
use Rattle.gmp_seq.specs.declared.call.Reply.{Reply}
use Rattle.gmp_allowed.specs.Tried.{IsServed}
use Rattle.gmp_allowed.proofs.Adding.{all_added, next_added, none_before}
use Rattle.gmp_allowed.proofs.dealing.of_waiters.Goals as goal

pub loop-g-init : goal.loop-g-init
loop-g-init c = none_before (IsServed c.args.i c.args.c c.args.direction c.args.first c.args.rows.now) c.args.out.now.items

pub loop-g-preserved : goal.loop-g-preserved
loop-g-preserved c =
    let a = c.args in
    let rows = a.rows.now in
    next_added (IsServed a.i a.c a.direction a.first rows) (λ (r : Reply). c.of_waiter.result ≡ Some r) c.loop-g.g a.out.now.items c.loop-g.out.items c.add_some.new.out.items c.loop-g.invariant
    c.in_ok-add_some.ensures
    (λ r is. c.of_waiter.ensures rows r (slice_get_read rows (length rows) c.loop-g.g c.index-rows-g.result refl c.loop-g-test.true c.index-rows-g.is) is)

pub returns : goal.returns
returns c = all_added (IsServed c.args.i c.args.c c.args.direction c.args.first c.args.rows.now) (length c.args.rows.now) c.loop-g.g c.args.out.now.items c.loop-g.out.items c.loop-g-test.false c.loop-g.invariant
