use Rattle.std.proofs.Common.{Option, None, Some, subst}
use Rattle.gmp_start.specs.declared.start.Start.{Start}
use Rattle.gmp_start.specs.Start.{state_of}
use Rattle.gmp_trace.specs.Text.{content}
use Rattle.gmp_check.specs.Checked.{start_of}
use Rattle.gmp_join_cli.proofs.Stops.{ended_apart, not_same, one_stop}
use Rattle.gmp_join_cli.specs.Join.{StopsAt}
use Rattle.gmp_join_cli.proofs.stopping.goes_on.Goals as goal

pub returns-in_default-clause-apart : goal.returns-in_default-clause-apart
returns-in_default-clause-apart c was x is right meets =
    let ended : StopsAt x None = subst (λ (at : Option Start). StopsAt x at) c.in_default.is is.at in
    ended_apart x (content c.args.trace.now) right.outcome c.requires.0 right.right c.requires.1 ended meets

pub returns-clause-apart : goal.returns-clause-apart
returns-clause-apart c =
    not_same c.begins_at.result (state_of c.in-Some.at) (start_of (content c.args.trace.now)) _ c.begins_at.ensures
    (λ apart x is right meets.
    let led : StopsAt x (Some c.in-Some.at) = subst (λ (at : Option Start). StopsAt x at) c.in-Some.is is.at in
    apart (one_stop x right.outcome (state_of c.in-Some.at) (start_of (content c.args.trace.now)) right.right led meets.led))
