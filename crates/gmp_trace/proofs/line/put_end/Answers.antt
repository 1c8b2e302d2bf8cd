use Rattle.std.proofs.Common.{rules}
use Rattle.gmp_trace.specs.Pieces.{end_text}
use Rattle.gmp_trace.proofs.line.put_end.Goals as goal

pub returns-in-BookFull : goal.returns-in-BookFull
unfolding end_text
returns-in-BookFull c = search rules
