use Rattle.std.proofs.Common.{◌≡◌, ◌++◌, map, drop}
use Rattle.gmp_trace.specs.Guess.{capacity_of}
use Rattle.gmp_trace.proofs.at.guess_capacities.Given as goal

abbrev pub invariant-loop-word : goal.invariant-loop-word
invariant-loop-word l =
    l.capacities.items ++ map capacity_of (map (λ w. w.now) (drop l.word-index l.words)) ≡ map capacity_of (map (λ w. w.now) l.words)
