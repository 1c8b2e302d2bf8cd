use Rattle.std.proofs.Common.{rules}
use Rattle.gmp_book.proofs.values.claimed.Goals as goal

pub returns-in-Claim : goal.returns-in-Claim
returns-in-Claim c = search rules
