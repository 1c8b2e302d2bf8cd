use Rattle.std.proofs.Common.{rules}
use Rattle.gmp_worker.proofs.locally.any_local_turn.Goals as goal

pub returns-in-Resume-clause-resumes : goal.returns-in-Resume-clause-resumes
returns-in-Resume-clause-resumes g c = search rules

pub returns-in-Clock-clause-reads : goal.returns-in-Clock-clause-reads
returns-in-Clock-clause-reads g c = search rules
