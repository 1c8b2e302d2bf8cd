use Rattle.std.proofs.Common.{append_assoc, arith}
use Rattle.itoa.proofs.Decimal.{decimal_four}
use Rattle.gmp_trace.proofs.digits.place_more.Goals as goal

pub returns-clause-text : goal.returns-clause-text
returns-clause-text c =
    rw (decimal_four c.args.n c.if-n-lt10000.false (omega arith))
    (rw (c.place_two-at.ensures.text, c.place_short-at.ensures.text, append_assoc, append_assoc) at c.place_two.ensures.text)
