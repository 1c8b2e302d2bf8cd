use Rattle.std.proofs.Common.{◌≡◌, take}
use Rattle.gmp_run_cli.proofs.running.copied.Given as goal

-- the bodies before the index are copied
abbrev pub invariant-loop-body : goal.invariant-loop-body
invariant-loop-body l = l.copies.items ≡ take l.body-index l.bodies
