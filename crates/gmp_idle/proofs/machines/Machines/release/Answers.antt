use Rattle.std.proofs.Common.{arith, sym, subst}
use Rattle.gmp_seq.specs.Machines.{Machines, Holds}
use Rattle.gmp_idle.proofs.Holding.{given_up, holder_within}
use Rattle.gmp_idle.proofs.Moving.{bare_after}
use Rattle.gmp_idle.proofs.machines.Machines.release.Goals as goal

pub remove-requires : goal.remove-requires
remove-requires c =
    let i = c.self.inside in
    let holds = subst (λ (w : Machines). Holds w c.args.m c.args.p) (sym c.self.view_is) c.requires in
    holder_within i.processors i.modes i.holding i.spinning c.self.invariant.0 c.args.m c.args.p.0 holds

pub invariant_of-self : goal.invariant_of-self
invariant_of-self c =
    let i = c.self.inside in
    let holds = subst (λ (w : Machines). Holds w c.args.m c.args.p) (sym c.self.view_is) c.requires in
    rw (c.release.ensures, c.remove.ensures) (given_up i.processors i.modes i.holding i.spinning c.self.invariant.0 c.args.m c.args.p.0 holds, c.self.invariant.1)

pub returns-clause-bare : goal.returns-clause-bare
returns-clause-bare c =
    let i = c.self.inside in
    let holds = subst (λ (w : Machines). Holds w c.args.m c.args.p) (sym c.self.view_is) c.requires in
    rw c.release.ensures (bare_after i.processors i.modes i.holding i.spinning c.self.invariant.0 c.args.m c.args.p.0 holds)

pub returns-clause-there : goal.returns-clause-there
returns-clause-there c =
    let i = c.self.inside in
    let holds = subst (λ (w : Machines). Holds w c.args.m c.args.p) (sym c.self.view_is) c.requires in
    let within = holder_within i.processors i.modes i.holding i.spinning c.self.invariant.0 c.args.m c.args.p.0 holds in
    let flags = c.self.invariant.0.flags in
    omega (arith, within, flags)
