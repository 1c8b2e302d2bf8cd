use Rattle.gmp_journal.proofs.Common.{refl, log_of}
use Rattle.gmp_journal.proofs.Granted.{ongoing_room}
use Rattle.gmp_journal.proofs.journal.Journal.outcome.Goals as goal

pub returns-clause-ongoing : goal.returns-clause-ongoing
returns-clause-ongoing c = ongoing_room (log_of c.self.inside) c.args.self.now _ c.self.view_is c.self.invariant.0.part refl
