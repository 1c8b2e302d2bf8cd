use Rattle.gmp_fair.proofs.Opened.{kept_after}
use Rattle.gmp_fair.proofs.Shelf.{shelf_bound}
use Rattle.gmp_fair.proofs.laws.shelf_is_served.Goals as goal

pub returns : goal.returns
returns c = λ run limits bodies capacities before k g j shelf moves end m are all behind waits inside.
    shelf_bound g m limits.procs moves k end shelf j (kept_after run limits bodies capacities before k m are all inside) behind waits
