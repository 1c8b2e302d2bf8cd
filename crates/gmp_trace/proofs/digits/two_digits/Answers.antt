use Rattle.gmp_trace.proofs.Pairs.{PAIRS_at}
use Rattle.gmp_trace.proofs.digits.two_digits.Goals as goal

pub returns : goal.returns
returns c = let p = PAIRS_at c.args.n c.requires in rw (p.0, p.1)
