use Rattle.gmp_fair.proofs.Opened.{kept_after}
use Rattle.gmp_fair.proofs.Ticks.{ticks_bound}
use Rattle.gmp_fair.proofs.laws.clock_is_told.Goals as goal

pub returns : goal.returns
returns c = λ run limits bodies capacities before k moves end m are all never inside.
    ticks_bound m limits.procs moves k end (kept_after run limits bodies capacities before k m are all inside) never
