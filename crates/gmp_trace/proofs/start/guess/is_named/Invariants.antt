use Rattle.std.proofs.Common.{◌≡◌, map, drop}
use Rattle.gmp_trace.specs.StartGuess.{named}
use Rattle.gmp_trace.proofs.start.guess.is_named.Given as goal

abbrev pub invariant-loop-word : goal.invariant-loop-word
invariant-loop-word l = named (map (λ w. w.now) (drop l.word-index l.words)) l.m ≡ named (map (λ w. w.now) l.words) l.m
