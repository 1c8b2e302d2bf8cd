use Rattle.std.proofs.Common.{◌≡◌, take}
use Rattle.gmp_seq.specs.Run.{Run}
use Rattle.gmp_start.specs.Start.{state_of}
use Rattle.gmp_check.proofs.begin.replayed.Given as goal

-- the entries before the index lead to the replay's state
abbrev pub invariant-loop-i : goal.invariant-loop-i
invariant-loop-i l = record {
  limits : l.replay.limits ≡ l.fn.limits;
  led : Run l.fn.limits (state_of l.fn.start) (take l.i l.fn.entries.list) l.replay.state;
}
