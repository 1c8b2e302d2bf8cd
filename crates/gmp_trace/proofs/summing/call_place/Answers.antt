use Rattle.std.proofs.Common.{◌∙◌, ap}
use Rattle.gmp_trace.specs.Summary.{kind_name}
use Rattle.gmp_trace.proofs.Counting.{named}
use Rattle.gmp_trace.proofs.summing.call_place.Goals as goal

pub returns-clause-name : goal.returns-clause-name
returns-clause-name c = c.kind_place.ensures.name ∙ ap kind_name c.of.ensures ∙ named c.args.call.now
