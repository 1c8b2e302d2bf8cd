use Rattle.gmp_parts.proofs.Written.{legal_written}
use Rattle.gmp_parts.proofs.laws.written_is_legal.Goals as goal

pub returns-clause-legal : goal.returns-clause-legal
returns-clause-legal g c = legal_written g.W.Write.contents
