use Rattle.std.proofs.Common.{rules}
use Rattle.gmp_base.proofs.ask.Fault.number.Goals as goal

pub returns-in-NoSuchBody : goal.returns-in-NoSuchBody
returns-in-NoSuchBody c = search rules

pub returns-in-AlreadyStarted : goal.returns-in-AlreadyStarted
returns-in-AlreadyStarted c = search rules
