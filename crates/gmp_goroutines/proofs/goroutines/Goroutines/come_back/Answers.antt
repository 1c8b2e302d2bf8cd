use Rattle.std.proofs.Common.{rules}
use Rattle.gmp_goroutines.proofs.Common.{refl}
use Rattle.gmp_goroutines.proofs.Ties.{kept}
use Rattle.gmp_goroutines.proofs.goroutines.Goroutines.come_back.Goals as goal

pub invariant_of-self : goal.invariant_of-self
invariant_of-self c = let calls = rw (← c.self.view_is) at c.requires.calls in kept c.self.invariant c.args.g _ _ _ calls refl refl c.requeue.ensures.table

pub returns-clause-resumes : goal.returns-clause-resumes
returns-clause-resumes c = search rules
