use Rattle.std.proofs.Common.{rules}
use Rattle.gmp_core.proofs.engine.wanted.Goals as goal

pub returns-in-Clock : goal.returns-in-Clock
returns-in-Clock c = search rules
