use Rattle.gmp_parts.proofs.Written.{none_written, one_written}
use Rattle.gmp_parts.proofs.laws.written.Goals as goal

pub returns : goal.returns
returns g c = record { none = none_written g.W.Write.contents; more = one_written g.W.Write.contents }
