use Rattle.std.proofs.Common.{ap, set, ◌∙◌}
use Rattle.std.proofs.lemmas.List.{length-map}
use Rattle.gmp_seq.specs.declared.status.Mode.TheVariants.{Calling}
use Rattle.gmp_seq.specs.Machines.{Machines, has_processor, is_awake_mode}
use Rattle.gmp_idle.proofs.Moving.{enters, kept_entered}
use Rattle.gmp_idle.proofs.machines.Machines.enter.Goals as goal

pub invariant_of-self : goal.invariant_of-self
invariant_of-self c =
    let i = c.self.inside in
    let m = c.args.m in
    let bare = ap (λ (w : Machines). has_processor w m) c.self.view_is ∙ c.release.ensures.bare in
    rw (c.awake-self-inside.ensures, c.put.ensures) (
      kept_entered i.processors i.modes i.holding i.spinning c.self.invariant.0 m c.wake_least-woken.result c.wake_least-woken.new.self bare c.wake_least-woken.ensures,
      length-map (set c.wake_least-woken.new.self m.0 Calling) is_awake_mode,
    )

pub returns-clause-enters : goal.returns-clause-enters
returns-clause-enters c =
    let i = c.self.inside in
    let between : Machines = record { holders = i.processors; modes = i.modes; spinning = i.spinning; marked = i.marked; active = i.active } in
    rw (c.awake-self-inside.ensures, c.put.ensures)
    (enters between c.args.self.now c.args.m c.args.p c.wake_least-woken.result c.wake_least-woken.new.self (c.self.view_is ∙ c.release.ensures.idle) c.requires.awake c.requires.holds c.wake_least-woken.ensures)
