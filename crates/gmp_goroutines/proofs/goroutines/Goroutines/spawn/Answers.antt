use Rattle.gmp_goroutines.proofs.Ties.{spawn_kept}
use Rattle.gmp_goroutines.proofs.goroutines.Goroutines.spawn.Goals as goal

pub invariant_of-self : goal.invariant_of-self
invariant_of-self c = spawn_kept c.self.invariant _ c.spawn.result c.spawn.ensures.none c.spawn.ensures.spawns
