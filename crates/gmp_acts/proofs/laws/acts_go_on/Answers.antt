use Rattle.gmp_acts.proofs.Onward.{all_go_on, go_on, step_on}
use Rattle.gmp_acts.proofs.laws.acts_go_on.Goals as goal

pub returns-clause-act : goal.returns-clause-act
returns-clause-act c = go_on

pub returns-clause-step : goal.returns-clause-step
returns-clause-step c = λ k m choice asked answer next s few inside acts step. step_on k m choice asked answer next s few inside acts step

pub returns-clause-all : goal.returns-clause-all
returns-clause-all c = all_go_on
