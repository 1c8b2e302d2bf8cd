use Rattle.gmp_core.proofs.Together.{passes_in}
use Rattle.gmp_core.proofs.engine.Core.close.Goals as goal

pub let_go-requires : goal.let_go-requires
let_go-requires g c = passes_in _ c.self.invariant
