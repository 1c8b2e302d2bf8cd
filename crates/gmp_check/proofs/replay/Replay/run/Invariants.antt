use Rattle.std.proofs.Common.{◌≡◌, length}
use Rattle.gmp_seq.specs.Run.{Run}
use Rattle.gmp_check.proofs.replay.Replay.run.Given as goal

-- the entries so far are a run from the replay's first state to its present one
abbrev pub invariant-loop-i : goal.invariant-loop-i
invariant-loop-i g l = record {
  limits : l.self.limits ≡ l.fn.self.limits;
  counted : l.i ≡ length l.yielded;
  run : Run l.fn.self.limits l.fn.self.state l.yielded l.self.state;
}
