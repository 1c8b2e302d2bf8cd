use Rattle.gmp_turn.proofs.Refusing.{stopped, unmade}
use Rattle.gmp_turn.proofs.laws.refusals_are_acts.Goals as goal

pub returns-clause-over : goal.returns-clause-over
returns-clause-over g c = λ x x' book book' m asked word why own is fits run there may turned over. stopped x x' book book' m asked word why own is fits run there may turned over

pub returns-clause-wanted : goal.returns-clause-wanted
returns-clause-wanted g c = λ x x' book book' m asked word why own is fits run there granted turned goes on room. unmade x x' book book' m asked word why own is fits run there granted.may turned goes on room granted
