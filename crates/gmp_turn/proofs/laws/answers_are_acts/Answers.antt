use Rattle.gmp_turn.proofs.Acting.{accepted}
use Rattle.gmp_turn.proofs.laws.answers_are_acts.Goals as goal

pub returns : goal.returns
returns g c = λ x x' book book' m asked word answer own is fits granted turned. accepted x x' book book' m asked word answer own is fits granted turned
