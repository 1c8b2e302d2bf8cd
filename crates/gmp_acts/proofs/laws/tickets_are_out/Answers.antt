use Rattle.gmp_acts.proofs.Granted.{ticket_is_out}
use Rattle.gmp_acts.proofs.laws.tickets_are_out.Goals as goal

pub returns : goal.returns
returns c = ticket_is_out
