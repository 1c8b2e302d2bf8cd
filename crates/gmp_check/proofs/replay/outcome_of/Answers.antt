use Rattle.std.proofs.Common.{◌≡◌}
use Rattle.gmp_check.proofs.Replaying.{opened_error, with_error}
use Rattle.gmp_check.specs.Replayed.{IsReplayError, as_replay_error}
use Rattle.gmp_check.proofs.replay.outcome_of.Goals as goal

pub returns-in_err-replay-clause-why : goal.returns-in_err-replay-clause-why
returns-in_err-replay-clause-why c =
    let a = c.args in
    with_error c.from_residual.result (λ e. e ≡ as_replay_error c.in_err-replay.field-0.0) (IsReplayError a.limits a.bodies a.capacities.now a.entries.now.list)
    (λ e is. opened_error a.limits a.bodies a.capacities.now a.entries.now.list c.in_err-replay.field-0.0 e is c.in_err-replay.ensures.why) c.from_residual.ensures.1
