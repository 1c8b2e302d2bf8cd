use Rattle.gmp_test_play.proofs.player.Player.deals.Given as goal

-- one pass fewer is left
abbrev pub decreases-loop-pass : goal.decreases-loop-pass
decreases-loop-pass l = goal.left-loop-pass l
