use Rattle.gmp_acts.specs.Headline.{opening_system}
use Rattle.gmp_acts.proofs.Claimed.{no_claim_refused}
use Rattle.gmp_acts.proofs.Moving.{all_sound}
use Rattle.gmp_acts.proofs.Onward.{headline_after}
use Rattle.gmp_acts.proofs.Whole.{opening_sound}
use Rattle.gmp_acts.proofs.laws.headline.Goals as goal

pub returns-clause-headline : goal.returns-clause-headline
returns-clause-headline c = headline_after

pub returns-clause-claims : goal.returns-clause-claims
returns-clause-claims c = λ is_fair run limits bodies capacities moves k m choice end are all acts.
    no_claim_refused k m choice end (all_sound moves (opening_system is_fair run limits bodies capacities) k all (opening_sound is_fair run limits bodies capacities are)) acts
