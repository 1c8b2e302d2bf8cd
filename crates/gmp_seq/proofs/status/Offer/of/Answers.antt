use Rattle.std.proofs.Common.{rules}
use Rattle.gmp_seq.proofs.status.Offer.of.Goals as goal

pub returns : goal.returns
returns c = search rules
