use Rattle.gmp_trace.proofs.StartSaid.{text_is}
use Rattle.gmp_trace.proofs.laws.lines_are_text.Goals as goal

pub returns : goal.returns
returns c = text_is
