use Rattle.gmp_acts.proofs.Losing.{asked_at, minded_at, moment_at, number_at}
use Rattle.gmp_acts.proofs.laws.machines_are_told.Goals as goal

pub returns-clause-ask : goal.returns-clause-ask
returns-clause-ask c = λ k m choice end inside at acts. asked_at k m choice end inside acts at

pub returns-clause-number : goal.returns-clause-number
returns-clause-number c = λ k m choice end inside at acts. number_at k m choice end inside acts at

pub returns-clause-minded : goal.returns-clause-minded
returns-clause-minded c = λ k m choice deadline end inside at acts. minded_at k m choice end inside acts deadline at

pub returns-clause-moment : goal.returns-clause-moment
returns-clause-moment c = λ k m choice end inside at full acts. moment_at k m choice end inside acts at full
