use Rattle.std.proofs.Common.{◌≡◌}
use Rattle.std.specs.List.{All}
use Rattle.gmp_seq.specs.Fits.{Fits}
use Rattle.gmp_seq.specs.Run.{Run}
use Rattle.gmp_parts.proofs.writer.take_all.Given as goal

-- the entries so far are a run from the replay's first state to its present one
abbrev pub invariant-loop-entry : goal.invariant-loop-entry
invariant-loop-entry l = record {
  limits : l.replay.limits ≡ l.fn.replay.limits;
  run : Run l.fn.replay.limits l.fn.replay.state l.yielded l.replay.state;
  fits : All Fits l.yielded;
}
