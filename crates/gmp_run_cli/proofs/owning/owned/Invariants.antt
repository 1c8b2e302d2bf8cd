use Rattle.std.proofs.Common.{◌≡◌, map}
use Rattle.gmp_run_cli.proofs.owning.owned.Given as goal

-- those that were taken, each its own
abbrev pub invariant-loop-body : goal.invariant-loop-body
invariant-loop-body l = l.owned.items ≡ map (λ b. record { 0 = b }) l.yielded
