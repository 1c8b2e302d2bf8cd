use Rattle.gmp_explore_cli.proofs.tracing.lead.Goals as goal

pub returns : goal.returns
returns c = λ limits bodies capacities was. c.end.ensures limits bodies capacities (c.walk.ensures limits bodies capacities was)
