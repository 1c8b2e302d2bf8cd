use Rattle.gmp_fair.proofs.Opened.{kept_after}
use Rattle.gmp_fair.proofs.Queue.{queue_bound}
use Rattle.gmp_fair.proofs.laws.queues_are_served.Goals as goal

pub returns : goal.returns
returns c = λ run limits bodies capacities before k p r j moves end m are all behind waits inside.
    queue_bound r p m limits.procs moves k end j (kept_after run limits bodies capacities before k m are all inside) behind waits
