use Rattle.gmp_test_nonsense.proofs.refused.opening.are_first.Given as goal

abbrev pub decreases-loop-pass : goal.decreases-loop-pass
decreases-loop-pass l = goal.left-loop-pass l
