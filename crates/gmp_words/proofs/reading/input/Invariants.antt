use Rattle.std.proofs.Common.{◌≤◌, length}
use Rattle.std.specs.Io.KnownBytes.{Consumes}
use Rattle.gmp_words.proofs.reading.input.Given as goal

abbrev pub invariant-reads : goal.invariant-reads
invariant-reads g l = record {
  short : length l.text.items ≤ l.most;
  taken : Consumes (g.R.Read.remaining l.fn.reader) (g.R.Read.remaining l.reader) l.text.items;
}
