use Rattle.gmp_turn.proofs.Kept.{kept_at_end, turned}
use Rattle.gmp_turn.proofs.laws.values_are_kept.Goals as goal

pub returns-clause-turn : goal.returns-clause-turn
returns-clause-turn g c = λ x x' book book' asked word result is fits out out' t. turned x x' book book' asked word is fits out out' result t

pub returns-clause-surrender : goal.returns-clause-surrender
returns-clause-surrender g c = λ x x' book book' which result one out out' s. kept_at_end x book one out out' x' book' which result s
