use Rattle.gmp_fair.proofs.Opened.{bodies_are, kept_after}
use Rattle.gmp_fair.proofs.Few.{few_in_queue, few_on_shelf}
use Rattle.gmp_fair.proofs.laws.nobody_is_passed_over.Goals as goal

pub returns-clause-shelf : goal.returns-clause-shelf
returns-clause-shelf c = λ run limits bodies capacities before k g shelf moves end m are all waits inside.
    few_on_shelf g m limits.procs bodies moves k end shelf (kept_after run limits bodies capacities before k m are all inside) (bodies_are run limits bodies capacities before k are all) waits

pub returns-clause-queue : goal.returns-clause-queue
returns-clause-queue c = λ run limits bodies capacities before k p r moves end m are all waits inside.
    few_in_queue r p m limits.procs bodies moves k end (kept_after run limits bodies capacities before k m are all inside) (bodies_are run limits bodies capacities before k are all) waits
