use Rattle.std.proofs.Common.{refl}
use Rattle.gmp_run_cli.proofs.telling.trace_of.Goals as goal

pub returns : goal.returns
returns g c = rw (c.requires, c.in_ok-extend_from_slice.ensures.items, c.new-copied.ensures.items, c.of.ensures) refl
