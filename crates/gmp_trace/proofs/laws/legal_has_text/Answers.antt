use Rattle.gmp_trace.proofs.Numbered.{legal_text}
use Rattle.gmp_trace.proofs.laws.legal_has_text.Goals as goal

pub returns : goal.returns
returns c = legal_text
