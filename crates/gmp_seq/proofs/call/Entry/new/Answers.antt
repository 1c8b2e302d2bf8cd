use Rattle.std.proofs.Common.{rules}
use Rattle.gmp_seq.proofs.call.Entry.new.Goals as goal

pub returns-clause-value : goal.returns-clause-value
returns-clause-value c = search rules
