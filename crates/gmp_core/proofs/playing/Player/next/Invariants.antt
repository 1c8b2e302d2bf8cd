use Rattle.std.proofs.Common.{◌≡◌, ◌<◌, ◌+◌, ◌%◌, ℕ, true}
use Rattle.gmp_core.specs.Stage.{machines_of, parked}
use Rattle.gmp_core.proofs.playing.Player.next.Given as goal

-- each machine so far is parked
abbrev pub invariant-loop-passed : goal.invariant-loop-passed
invariant-loop-passed g l =
    (i : ℕ) → i < l.passed → parked l.self-inside.core.system ((l.self-inside.turn + i) % machines_of l.self-inside.core.system) ≡ true
