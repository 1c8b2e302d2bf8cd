use Rattle.gmp_test_nonsense.proofs.refused.making.only.Given as goal

abbrev pub decreases-loop-other : goal.decreases-loop-other
decreases-loop-other l = goal.left-loop-other l
