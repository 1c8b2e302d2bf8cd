use Rattle.std.proofs.Common.{◌≡◌, ◌<◌, ℕ, true, false}
use Rattle.gmp_driver.specs.Machine.{is_done}
use Rattle.gmp_acts.specs.System.{machine_at}
use Rattle.gmp_core.specs.Stage.{parked}
use Rattle.gmp_core.proofs.playing.Player.is_over.Given as goal

-- each machine so far is parked or done
abbrev pub invariant-loop-m : goal.invariant-loop-m
invariant-loop-m g l =
    (i : ℕ) → i < l.m → parked l.self-inside.core.system i ≡ false → is_done (machine_at l.self-inside.core.system (record { 0 = i })).place ≡ true
