use Rattle.std.proofs.Common.{◌≡◌, ◌++◌, map, drop}
use Rattle.gmp_trace.specs.StartGuess.{mode_read}
use Rattle.gmp_trace.proofs.start.guess.guess_modes.Given as goal

abbrev pub invariant-loop-word : goal.invariant-loop-word
invariant-loop-word l = l.list.items ++ map mode_read (map (λ w. w.now) (drop l.word-index l.words)) ≡ map mode_read (map (λ w. w.now) l.words)
