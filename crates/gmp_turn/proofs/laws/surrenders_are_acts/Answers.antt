use Rattle.gmp_turn.proofs.Giving.{given}
use Rattle.gmp_turn.proofs.laws.surrenders_are_acts.Goals as goal

pub returns : goal.returns
returns g c = λ x x' book book' which s. given x x' book book' which s
