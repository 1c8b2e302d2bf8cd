use Rattle.gmp_demo_pieces.proofs.host.opened.Given as goal

-- one pass fewer is left
abbrev pub decreases-loop-pass : goal.decreases-loop-pass
decreases-loop-pass l = goal.left-loop-pass l
