use Rattle.gmp_driver.proofs.Unfair.{acts_alike, fair_stays, fresh_alike, never_aside, places_alike, turns_alike}
use Rattle.gmp_driver.proofs.laws.unfair_is_as_before.Goals as goal

pub returns-clause-stays : goal.returns-clause-stays
returns-clause-stays c = fair_stays

pub returns-clause-never : goal.returns-clause-never
returns-clause-never c = λ s here what none away. never_aside s none here what away

pub returns-clause-place : goal.returns-clause-place
returns-clause-place c = λ s looks here what none. places_alike s none looks here what

pub returns-clause-turns : goal.returns-clause-turns
returns-clause-turns c = λ s looks here what none. turns_alike s none looks here what

pub returns-clause-fresh : goal.returns-clause-fresh
returns-clause-fresh c = fresh_alike

pub returns-clause-act : goal.returns-clause-act
returns-clause-act c = acts_alike
