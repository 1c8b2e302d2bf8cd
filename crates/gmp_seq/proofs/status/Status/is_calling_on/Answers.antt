use Rattle.std.proofs.Common.{rules}
use Rattle.gmp_seq.proofs.status.Status.is_calling_on.Goals as goal

pub returns-in-Calling : goal.returns-in-Calling
returns-in-Calling c = search rules
