use Rattle.gmp_seq.specs.State.{opening}
use Rattle.gmp_journal.proofs.Segmented.{joined}
use Rattle.gmp_journal.proofs.laws.segments_join.Goals as goal

pub returns-clause-run : goal.returns-clause-run
returns-clause-run c = joined

pub returns-clause-legal : goal.returns-clause-legal
returns-clause-legal c limits bodies capacities b pieces are = joined limits (opening limits bodies capacities) b pieces are
