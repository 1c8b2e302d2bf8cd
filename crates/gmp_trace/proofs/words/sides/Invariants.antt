use Rattle.std.proofs.Common.{◌≡◌, [], map, take, drop}
use Rattle.gmp_trace.specs.Guess.{sides_on}
use Rattle.gmp_trace.proofs.words.sides.Given as goal

abbrev pub invariant-loop-i : goal.invariant-loop-i
invariant-loop-i l = sides_on (take l.i (map (λ w. w.now) l.words)) (drop l.i (map (λ w. w.now) l.words)) ≡ sides_on [] (map (λ w. w.now) l.words)
