use Rattle.std.proofs.Common.{rules}
use Rattle.gmp_worker.proofs.drawing.draw_for.Goals as goal

pub returns-in-Hunt : goal.returns-in-Hunt
returns-in-Hunt c = search rules
