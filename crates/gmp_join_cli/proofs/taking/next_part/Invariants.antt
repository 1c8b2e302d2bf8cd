use Rattle.std.proofs.Common.{◌≤◌, length}
use Rattle.std.specs.Io.KnownBytes.{Consumes}
use Rattle.gmp_join_cli.specs.Takes.{left}
use Rattle.gmp_join_cli.proofs.taking.next_part.Given as goal

abbrev pub invariant-reads : goal.invariant-reads
invariant-reads g l = record {
  within : l.line ≤ length l.held.items;
  taken : Consumes (left l.fn.held.items (g.R.Read.remaining l.fn.reader)) (g.R.Read.remaining l.reader) l.held.items;
}
