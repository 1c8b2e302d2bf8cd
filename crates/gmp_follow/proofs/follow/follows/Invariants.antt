use Rattle.std.proofs.Common.{◌≡◌, ◌++◌}
use Rattle.gmp_scene.specs.Reached.{IsRunOf}
use Rattle.gmp_follow.proofs.follow.follows.Given as goal

-- the entries so far are a run of the script to the replay's state and to the bodies, and the others are still to come
abbrev pub invariant-loop-entry : goal.invariant-loop-entry
invariant-loop-entry l = record {
  limits : l.replay.limits ≡ l.fn.limits;
  left : l.fn.entries.list ≡ l.yielded ++ l.entry-iterator;
  run : IsRunOf l.fn.limits l.fn.capacities l.fn.script l.yielded l.replay.state l.bodies;
}
