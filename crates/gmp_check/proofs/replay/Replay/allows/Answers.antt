use Rattle.std.proofs.Common.{subst}
use Rattle.gmp_seq.specs.Run.{IsStep}
use Rattle.gmp_seq.specs.State.{State}
use Rattle.gmp_check.proofs.Trying.{decides_leads}
use Rattle.gmp_check.specs.Decides.{Decides}
use Rattle.gmp_check.specs.Replayed.{Replayed}
use Rattle.gmp_check.proofs.replay.Replay.allows.Goals as goal

pub returns : goal.returns
returns c =
    let now = c.args.self.now in
    let e = c.args.entry.now in
    let b = c.in_ok-step.field-0 in
    let new = c.step.new.self in
    let tried = subst (λ (s : State). Decides (IsStep c.self.inside.limits e) s new b) c.in_ok-state.ensures c.in_ok-step.ensures.decides in
    let here = subst (λ (r : Replayed). Decides (IsStep r.limits e) r.state new b) c.self.view_is tried in
    decides_leads (IsStep now.limits e) now.state new b here
