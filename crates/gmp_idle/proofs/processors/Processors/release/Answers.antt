use Rattle.std.proofs.Common.{None, ◌∙◌}
use Rattle.std.specs.Prelude.{is_none}
use Rattle.gmp_idle.proofs.Marking.{marked}
use Rattle.gmp_idle.proofs.processors.Processors.release.Goals as goal

pub invariant_of-self : goal.invariant_of-self
invariant_of-self c = c.insert.ensures ∙ marked is_none c.self.inside.idle c.self.inside.holders.items c.args.p.0 None c.self.invariant
