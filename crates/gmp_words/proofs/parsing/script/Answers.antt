use Rattle.std.proofs.Common.{rules}
use Rattle.gmp_words.proofs.parsing.script.Goals as goal

pub parsed-requires : goal.parsed-requires
parsed-requires g c = search rules

pub returns-clause-short_ok : goal.returns-clause-short_ok
returns-clause-short_ok g c = search rules

pub returns-clause-short : goal.returns-clause-short
returns-clause-short g c = search rules
