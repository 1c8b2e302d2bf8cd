use Rattle.std.proofs.Common.{rules}
use Rattle.gmp_journal.proofs.journal.Journal.turn_refusal.Goals as goal

pub returns-clause-why : goal.returns-clause-why
returns-clause-why c = search rules

pub returns-clause-current : goal.returns-clause-current
returns-clause-current c = search rules

pub returns-then-pass-calls-clause-why : goal.returns-then-pass-calls-clause-why
returns-then-pass-calls-clause-why c = search rules
