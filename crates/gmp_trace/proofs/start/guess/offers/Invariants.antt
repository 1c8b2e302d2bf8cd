use Rattle.std.proofs.Common.{◌≡◌, ◌≤◌, ◌-◌, ◌++◌, length, map, drop, take}
use Rattle.gmp_trace.specs.StartGuess.{offer_read, offers_read}
use Rattle.gmp_trace.proofs.start.guess.offers.Given as goal

abbrev pub invariant-loop-i : goal.invariant-loop-i
invariant-loop-i l = record {
  count : length l.offers ≡ l.i;
  room : l.i ≤ 8;
  found : l.offers ++ map offer_read (take (8 - l.i) (map (λ w. w.now) (drop l.i l.words))) ≡ offers_read (map (λ w. w.now) l.words);
}
