use Rattle.std.proofs.Common.{rules}
use Rattle.gmp_base.proofs.cases.Cases.copied.Goals as goal

pub loop-case-preserved : goal.loop-case-preserved
loop-case-preserved c = search rules
