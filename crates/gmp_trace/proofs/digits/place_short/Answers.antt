use Rattle.std.proofs.Common.{arith, append_assoc}
use Rattle.itoa.proofs.Decimal.{decimal_pair}
use Rattle.gmp_trace.proofs.digits.place_short.Goals as goal

pub returns-clause-text : goal.returns-clause-text
returns-clause-text c =
    rw (decimal_pair c.args.n c.if-n-lt100.false (omega arith), ← append_assoc, ← c.place_first-at.ensures.text) c.place_two.ensures.text
