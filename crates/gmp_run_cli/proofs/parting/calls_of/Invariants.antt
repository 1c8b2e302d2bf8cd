use Rattle.std.proofs.Common.{◌≡◌, take}
use Rattle.gmp_run.specs.Counts.{all_calls}
use Rattle.gmp_run_cli.proofs.parting.calls_of.Given as goal

-- those of the logs so far
abbrev pub invariant-loop-log : goal.invariant-loop-log
invariant-loop-log l = l.calls ≡ all_calls (take l.log-index l.logs)
