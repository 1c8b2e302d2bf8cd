use Rattle.std.proofs.Common.{◌≡◌}
use Rattle.gmp_join_cli.specs.Join.{IsReadSoFar}
use Rattle.gmp_join_cli.specs.Takes.{left}
use Rattle.gmp_join_cli.proofs.joining.all_parts.Given as goal

abbrev pub invariant-parts : goal.invariant-parts
invariant-parts g l = record {
  so_far : IsReadSoFar (g.R.Read.remaining l.fn.reader) (left l.held.items (g.R.Read.remaining l.reader)) l.joined;
  counted : l.joined.parts ≡ l.counter;
}
