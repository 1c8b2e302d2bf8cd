use Rattle.std.proofs.Common.{[], sym}
use Rattle.std.proofs.lemmas.List.{get_or_past}
use Rattle.gmp_trace.specs.Summary.{names}
use Rattle.gmp_explain.proofs.fact.call_words.Goals as goal

pub returns-else-call-lt-CALLS : goal.returns-else-call-lt-CALLS
unfolding names
returns-else-call-lt-CALLS c = sym (get_or_past names c.args.call [] c.if-call-lt-CALLS.false)
