use Rattle.gmp_check.proofs.Consistency.{first_is}
use Rattle.gmp_check.proofs.state.State.first_on.Goals as goal

pub returns : goal.returns
returns c = first_is c.args.self.now _ c.self.view_is c.requires c.args.c c.args.direction c.first_on.result c.first_on.ensures
