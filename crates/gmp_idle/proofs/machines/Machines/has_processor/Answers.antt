use Rattle.std.proofs.Common.{ap, ◌∙◌}
use Rattle.gmp_seq.specs.Machines.{Machines, has_processor}
use Rattle.gmp_idle.proofs.Holding.{flag_told}
use Rattle.gmp_idle.proofs.machines.Machines.has_processor.Goals as goal

pub returns : goal.returns
returns c =
    let i = c.self.inside in
    c.contains.ensures ∙ (flag_told i.processors i.modes i.holding i.spinning c.args.m c.self.invariant.0 ∙ ap (λ (w : Machines). has_processor w c.args.m) c.self.view_is)
