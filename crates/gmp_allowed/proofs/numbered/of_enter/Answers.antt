use Rattle.std.proofs.Common.{None, arith}
use Rattle.std.proofs.lemmas.Option.{slice_get-get_or}
use Rattle.gmp_allowed.specs.Tried.{IsEntered}
use Rattle.gmp_allowed.proofs.Adding.{all_added, next_added, none_before}
use Rattle.gmp_allowed.proofs.numbered.of_enter.Goals as goal

pub loop-p-init : goal.loop-p-init
loop-p-init c = none_before (IsEntered c.args.m c.args.machines c.args.holders.now) c.args.out.now.items

pub loop-p-preserved : goal.loop-p-preserved
loop-p-preserved c =
    let a = c.args in
    let P = IsEntered a.m a.machines a.holders.now in
    next_added P (P c.loop-p.p) c.loop-p.p a.out.now.items c.loop-p.out.items c.of_entered.new.out.items c.loop-p.invariant
    (c.in_ok-of_entered.ensures a.holders.now (slice_get-get_or a.holders.now c.loop-p.p None c.loop-p-test.true))
    (λ r is. is)

pub returns : goal.returns
returns c = all_added (IsEntered c.args.m c.args.machines c.args.holders.now) _ c.loop-p.p c.args.out.now.items c.loop-p.out.items (omega arith) c.loop-p.invariant
