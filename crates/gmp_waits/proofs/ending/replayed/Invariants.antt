use Rattle.std.proofs.Common.{◌≡◌, ◌-◌, length}
use Rattle.gmp_seq.specs.Run.{IsLegal}
use Rattle.gmp_waits.specs.Lately.{RanTo}
use Rattle.gmp_waits.proofs.ending.replayed.Given as goal

-- the entries so far are a run to where the replay is, and of those to tell of it is told whose they are
abbrev pub invariant-loop-entry : goal.invariant-loop-entry
invariant-loop-entry l = record {
  limits : l.replay.limits ≡ l.fn.limits;
  run : IsLegal l.fn.limits l.fn.bodies l.fn.capacities l.yielded l.replay.state;
  skips : l.skips ≡ (length l.fn.history.list - 100) - length l.yielded;
  late : RanTo l.fn.limits l.fn.bodies l.fn.capacities (length l.fn.history.list - 100) l.yielded l.replay.state l.lately.items;
}
