use Rattle.gmp_fair.proofs.Turn.{in_turn}
use Rattle.gmp_fair.proofs.laws.shelf_is_in_turn.Goals as goal

pub returns : goal.returns
returns c = in_turn
