use Rattle.std.proofs.Common.{rules}
use Rattle.gmp_base.proofs.value.Ticket.readiness.Goals as goal

pub returns : goal.returns
returns c = search rules
