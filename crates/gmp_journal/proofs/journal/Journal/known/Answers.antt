use Rattle.std.proofs.Common.{rules}
use Rattle.gmp_journal.proofs.journal.Journal.known.Goals as goal

pub returns-in-Claim : goal.returns-in-Claim
returns-in-Claim c = search rules
