use Rattle.gmp_explore_cli.specs.Played.{Keeps}
use Rattle.gmp_explore_cli.proofs.playing.Player.fall_asleep.Given as goal

-- the run's beginning stays
abbrev pub invariant-loop-g : goal.invariant-loop-g
invariant-loop-g l = Keeps l.fn.self.stage.journal l.self.stage.journal
