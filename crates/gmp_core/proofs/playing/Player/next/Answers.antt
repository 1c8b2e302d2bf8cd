use Rattle.std.proofs.Common.{arith}
use Rattle.gmp_core.proofs.Turns.{all_parked}
use Rattle.gmp_core.proofs.playing.Player.next.Goals as goal

pub returns-clause-none : goal.returns-clause-none
returns-clause-none g c =
    rw (← c.self.view_is) (λ none. all_parked c.self.inside.core.system c.self.inside.turn (λ i within. c.loop-passed.invariant i (omega arith)))
