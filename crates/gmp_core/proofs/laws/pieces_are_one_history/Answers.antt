use Rattle.gmp_core.proofs.Before.{alone, joined_headline, none_asleep}
use Rattle.gmp_core.proofs.laws.pieces_are_one_history.Goals as goal

pub returns-clause-alone : goal.returns-clause-alone
returns-clause-alone c = λ is_fair run limits bodies capacities moves out k are all. alone is_fair run limits bodies capacities moves out k are all

pub returns-clause-headline : goal.returns-clause-headline
returns-clause-headline c = λ is_fair run limits bodies capacities moves out k are all. joined_headline is_fair run limits bodies capacities moves out k are all

pub returns-clause-awake : goal.returns-clause-awake
returns-clause-awake c = λ is_fair run limits bodies capacities moves out k are all. none_asleep is_fair run limits bodies capacities moves out k are all
