use Rattle.gmp_fair.proofs.Opened.{bodies_are, kept_after}
use Rattle.gmp_fair.proofs.Whole.{whole_bound}
use Rattle.gmp_fair.proofs.laws.whole_wait_is_bounded.Goals as goal

pub returns : goal.returns
returns c = λ run limits bodies capacities before k r shelf moves count end m are all waits inside.
    whole_bound r m limits.procs bodies moves shelf k count end (kept_after run limits bodies capacities before k m are all inside) (bodies_are run limits bodies capacities before k are all) waits
