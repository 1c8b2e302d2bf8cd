use Rattle.gmp_fair.proofs.Steady.{act_steady, opening_steady}
use Rattle.gmp_fair.proofs.laws.acts_keep_steady.Goals as goal

pub returns-clause-opening : goal.returns-clause-opening
returns-clause-opening c = opening_steady

pub returns-clause-act : goal.returns-clause-act
returns-clause-act c = λ k m choice end s all acts. act_steady k m choice end all acts
