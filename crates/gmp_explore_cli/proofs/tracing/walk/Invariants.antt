use Rattle.gmp_explore_cli.specs.Played.{Keeps}
use Rattle.gmp_explore_cli.proofs.tracing.walk.Given as goal

-- the run's beginning stays
abbrev pub invariant-loop-i : goal.invariant-loop-i
invariant-loop-i l = Keeps l.fn.player.stage.journal l.player.stage.journal
