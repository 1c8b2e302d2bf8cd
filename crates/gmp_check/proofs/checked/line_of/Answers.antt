use Rattle.std.proofs.Common.{rules}
use Rattle.gmp_check.proofs.checked.line_of.Goals as goal

pub returns : goal.returns
returns c = search rules
