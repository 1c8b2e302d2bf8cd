use Rattle.std.proofs.Common.{◌∙◌}
use Rattle.gmp_check.proofs.Last.{runs_some_is}
use Rattle.gmp_check.proofs.table.Table.runs_some.Goals as goal

pub returns : goal.returns
returns c = c.is_some.ensures ∙ runs_some_is c.args.self.now c.args.m c.running.result c.running.ensures.some c.running.ensures.none
