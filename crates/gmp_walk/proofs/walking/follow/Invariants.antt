use Rattle.std.proofs.Common.{◌≡◌, length}
use Rattle.gmp_seq.specs.Run.{Run}
use Rattle.gmp_walk.specs.Led.{RunsHeard}
use Rattle.gmp_walk.proofs.walking.follow.Given as goal

-- the entries so far are a run from the replay's first state to its present one, and the listener heard of them
abbrev pub invariant-loop-i : goal.invariant-loop-i
invariant-loop-i g l = record {
  limits : l.replay.limits ≡ l.fn.replay.limits;
  counted : l.i ≡ length l.yielded;
  run : Run l.fn.replay.limits l.fn.replay.state l.yielded l.replay.state;
  heard : RunsHeard g.L.Listener.hears l.fn.replay.limits l.fn.replay.state l.yielded l.replay.state l.initial.listener l.listener;
}
