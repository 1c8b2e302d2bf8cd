use Rattle.gmp_core.proofs.Together.{core_emptied}
use Rattle.gmp_core.proofs.engine.Core.hand_out.Goals as goal

pub invariant_of-self : goal.invariant_of-self
invariant_of-self g c = core_emptied _ _ c.self.invariant c.history.ensures.part.part.fits c.hand_out.ensures.rest c.hand_out.ensures.values.bodies c.hand_out.ensures.values.owners
