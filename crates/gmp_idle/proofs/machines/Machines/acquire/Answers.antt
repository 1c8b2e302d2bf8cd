use Rattle.std.proofs.Common.{Some, sym, ap, subst, ◌∙◌}
use Rattle.gmp_seq.specs.Machines.{Machines, IsAwake, IsOpen, has_processor, set_holder}
use Rattle.gmp_idle.proofs.Moving.{first_idle, kept_taken}
use Rattle.gmp_idle.proofs.machines.Machines.acquire.Goals as goal

pub invariant_of-self-2 : goal.invariant_of-self-2
invariant_of-self-2 c =
    let i = c.self.inside in
    let m = c.args.m in
    let awake = subst (λ (w : Machines). IsAwake w m) (sym c.self.view_is) c.requires.awake in
    let bare = ap (λ (w : Machines). has_processor w m) c.self.view_is ∙ c.requires.bare in
    rw (c.in_ok-p.ensures.2, c.insert.ensures) (kept_taken i.processors i.modes i.holding i.spinning c.self.invariant.0 m c.in_ok-p.p.0 awake bare c.in_ok-p.ensures.0, c.self.invariant.1)

pub returns-clause-acquires : goal.returns-clause-acquires
returns-clause-acquires c =
    let p = c.in_ok-p.p in
    let idle = first_idle c.self.inside.processors p.0 c.in_ok-p.ensures.0 in (
      c.requires.awake,
      c.requires.bare,
      subst (λ (w : Machines). IsOpen w p) c.self.view_is (idle, c.in_ok-p.ensures.1),
      rw c.in_ok-p.ensures.2 (ap (λ (w : Machines). set_holder w p (Some c.args.m)) c.self.view_is),
    )
