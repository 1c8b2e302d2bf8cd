use Rattle.gmp_driver.proofs.Local.{can_be_told, suits_then}
use Rattle.gmp_driver.proofs.laws.acts_lead_on.Goals as goal

pub returns-clause-apart : goal.returns-clause-apart
returns-clause-apart g c x what came f m e = (can_be_told x what came f m e).0

pub returns-clause-fits : goal.returns-clause-fits
returns-clause-fits g c x what came f m e = (can_be_told x what came f m e).1

pub returns-clause-holds : goal.returns-clause-holds
returns-clause-holds g c x what hand f m e = suits_then x what hand f m e
