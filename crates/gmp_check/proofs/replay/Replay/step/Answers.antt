use Rattle.std.proofs.Common.{subst}
use Rattle.gmp_seq.specs.Run.{IsStep}
use Rattle.gmp_check.proofs.Keeping.{next_fixed}
use Rattle.gmp_check.proofs.Replaying.{consistent_next}
use Rattle.gmp_check.specs.Decides.{Decides}
use Rattle.gmp_check.specs.Consistent.{IsConsistentUnder}
use Rattle.gmp_check.specs.Replayed.{Replayed}
use Rattle.gmp_check.proofs.replay.Replay.step.Goals as goal

pub invariant_of-self-2 : goal.invariant_of-self-2
invariant_of-self-2 c =
    let i = c.self.inside in
    consistent_next i.limits c.args.entry.now i.state c.step.new.self c.in_ok-step.field-0 c.self.invariant c.in_ok-step.ensures.decides

pub returns-clause-decides : goal.returns-clause-decides
returns-clause-decides c =
    subst (λ (r : Replayed). Decides (IsStep r.limits c.args.entry.now) r.state c.step.new.self c.in_ok-step.field-0) c.self.view_is c.in_ok-step.ensures.decides

pub returns-clause-determined : goal.returns-clause-determined
returns-clause-determined c a b one two =
    let now = c.args.self.now in
    let is = subst (λ (r : Replayed). IsConsistentUnder r.limits r.state) c.self.view_is c.self.invariant in
    next_fixed now.limits c.args.entry.now now.state a b is one two
