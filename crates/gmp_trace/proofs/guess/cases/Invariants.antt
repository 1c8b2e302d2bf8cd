use Rattle.std.proofs.Common.{◌≡◌, ◌≤◌, ◌-◌, length, map, drop}
use Rattle.gmp_trace.specs.Guess.{leading_cases}
use Rattle.gmp_trace.proofs.CaseLoop.{after}
use Rattle.gmp_trace.proofs.guess.cases.Given as goal

abbrev pub invariant-loop-i : goal.invariant-loop-i
invariant-loop-i l = record {
  count : length l.cases ≡ l.i;
  room : l.i ≤ 8;
  found : after l.cases (leading_cases (8 - l.i) (drop l.i (map (λ w. w.now) l.words))) ≡ leading_cases 8 (map (λ w. w.now) l.words);
}
