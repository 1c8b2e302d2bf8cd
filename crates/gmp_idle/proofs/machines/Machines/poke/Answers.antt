use Rattle.std.proofs.Common.{sym, ap, ◌∙◌}
use Rattle.gmp_seq.specs.Machines.{Machines}
use Rattle.gmp_idle.proofs.Moving.{may_wake, pokes}
use Rattle.gmp_idle.proofs.machines.Machines.poke.Goals as goal

pub returns-clause-pokes : goal.returns-clause-pokes
returns-clause-pokes c =
    let i = c.self.inside in
    let old : Machines = record { holders = i.processors; modes = i.modes; spinning = i.spinning; marked = i.marked; active = i.active } in
    let may = ap may_wake c.self.view_is ∙ (sym c.may_wake.ensures ∙ c.if-not-may_wake.false) in
    pokes old c.args.self.now c.args.m c.wake_least.result c.wake_least.new.self c.self.view_is c.requires may c.wake_least.ensures
