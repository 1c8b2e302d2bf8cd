use Rattle.gmp_acts.proofs.Moving.{act_sound}
use Rattle.gmp_acts.proofs.Onward.{act_opened}
use Rattle.gmp_acts.proofs.Whole.{headline_of, opening_sound}
use Rattle.gmp_acts.proofs.laws.acts_keep.Goals as goal

pub returns-clause-opening : goal.returns-clause-opening
returns-clause-opening c = opening_sound

pub returns-clause-act : goal.returns-clause-act
returns-clause-act c = λ k m choice end s acts. act_sound k m choice end acts s

pub returns-clause-opened : goal.returns-clause-opened
returns-clause-opened c = act_opened

pub returns-clause-headline : goal.returns-clause-headline
returns-clause-headline c = headline_of
