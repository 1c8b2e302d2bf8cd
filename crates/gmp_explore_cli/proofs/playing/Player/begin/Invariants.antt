use Rattle.gmp_explore_cli.specs.Played.{Keeps}
use Rattle.gmp_explore_cli.proofs.playing.Player.begin.Given as goal

-- the run's beginning stays
abbrev pub invariant-loop-m : goal.invariant-loop-m
invariant-loop-m l = Keeps l.fn.self.stage.journal l.self.stage.journal
