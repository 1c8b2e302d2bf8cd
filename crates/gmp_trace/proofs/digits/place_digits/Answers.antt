use Rattle.std.proofs.lemmas.Fmt.{decimal_digit}
use Rattle.gmp_trace.proofs.digits.place_digits.Goals as goal

pub returns-then-n-lt10-clause-text : goal.returns-then-n-lt10-clause-text
returns-then-n-lt10-clause-text c = rw (decimal_digit c.args.n c.if-n-lt10.true) c.place_byte.ensures.text
