use Rattle.std.proofs.Common.{◌≡◌, Some, sym, subst, rules}
use Rattle.std.specs.Prelude.{slice_get}
use Rattle.gmp_seq.specs.declared.status.Mode.TheVariants.{Calling}
use Rattle.gmp_seq.specs.Machines.{Machines}
use Rattle.gmp_idle.proofs.Moving.{bare_in_call}
use Rattle.gmp_idle.proofs.machines.Machines.leave.Goals as goal

pub acquire-requires-clause-bare : goal.acquire-requires-clause-bare
acquire-requires-clause-bare c =
    let i = c.self.inside in
    let m = c.args.m in
    let calls = subst (λ (w : Machines). slice_get w.modes m.0 ≡ Some Calling) (sym c.self.view_is) c.requires in
    bare_in_call i.processors i.modes i.holding i.spinning c.self.invariant.0 m calls

pub returns-clause-runs : goal.returns-clause-runs
returns-clause-runs c = search rules

pub returns-clause-least : goal.returns-clause-least
returns-clause-least c = search rules
