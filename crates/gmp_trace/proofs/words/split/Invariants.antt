use Rattle.std.proofs.Common.{◌≡◌, ◌≤◌, ◌<◌, ◌-◌, ◌++◌, [], length, map, take, drop}
use Rattle.gmp_trace.specs.Guess.{words_on}
use Rattle.gmp_trace.proofs.words.split.Given as goal

abbrev pub invariant-loop-i : goal.invariant-loop-i
invariant-loop-i l = record {
  order : l.start ≤ l.i;
  few : length l.words.items < 4110;
  found : map (λ w. w.now) l.words.items ++ words_on (take (l.i - l.start) (drop l.start l.text)) (drop l.i l.text) ≡ words_on [] l.text;
}
