use Rattle.gmp_host.proofs.Again.{said_run}
use Rattle.gmp_host.proofs.host.Host.run_saved.Goals as goal

-- the history is what was said
pub returns-clause-said : goal.returns-clause-said
returns-clause-said g c = said_run _ _ _ c.args.self.capacities.items c.args.self.bodies.items _ c.in_ok-run.ensures.traced c.in_ok-run.ensures.said
