use Rattle.std.proofs.lemmas.Fmt.{decimal_digit}
use Rattle.itoa.proofs.Decimal.{decimal_two}
use Rattle.gmp_trace.proofs.digits.place_first.Goals as goal

pub returns-then-n-ge10-clause-text : goal.returns-then-n-ge10-clause-text
returns-then-n-ge10-clause-text c = rw (decimal_two c.args.n c.if-n-ge10.true c.requires.small) c.place_two.ensures.text

pub returns-clause-text : goal.returns-clause-text
returns-clause-text c = rw (decimal_digit c.args.n c.if-n-ge10.false) c.place_byte.ensures.text
